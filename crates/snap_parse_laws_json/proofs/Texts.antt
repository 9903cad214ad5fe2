-- A JSON text owes its tokens.
use Rattle.snap_parse_laws_json.proofs.Prelude.{◌≡◌, ℕ, List, [], ◌∷◌, ◌++◌, true, false, not, refl, sym, ap, ◌∙◌, subst, arith, append-nil, Some, None, Option, map, nat_tests, map-append, nat_le, Plain, Place, mark_of, before_nul, forced, Token, Utf8, TokenType, stream_end, Keys, no_keys, is_required, still_fresh, fetched, left_by, none_more, one_more, type_of, Owes, State, start_state, at, pushed, allowing, keyless, text_at, has_refused, Condensed, here, steps-append, without-nul, levels, has_long, is_bounded, json_tokens, json_stream_tokens, and_parts, not_true}
use Rattle.snap_scan_tokens.specs.declared.token.TokenType.TheVariants as t
use Rattle.snap_scan.specs.Scan.{start_scan}
use Rattle.snap_parse_laws_json.proofs.Nuls.{no-nul}
use Rattle.snap_parse_laws_json.proofs.Signs.{otherwise, without_key, free-without}
use Rattle.snap_parse_laws_json.proofs.Standing.{flow_state, AreFree, still-free, fetch-flow, unrolled-same, none-late}
use Rattle.snap_parse_laws_json.proofs.Values.{Reads, reached, IsFit, node}
use Rattle.snap_parse_laws.proofs.Documents.{start_mark}

fit-whole : (p : Plain) → has_refused p ≡ false → is_bounded p ≡ true → IsFit 0 p
fit-whole p accepted bounded =
    let two = and_parts (nat_le (levels p) 1023) (not (has_long p)) bounded in
    let shallow : nat_le (levels p) 1023 ≡ true = two.0 in
    record { accepted = accepted; short = not_true (has_long p) two.1; shallow = grind (arith, nat_tests) }

abbrev start_token : Token
start_token = at start_mark (t.StreamStart Utf8)

-- the state at the end of the text, once StreamEnd was fetched
abbrev stopped : ℕ → Place → List Token → Keys → State
stopped a p h ks = record (pushed (at (mark_of p) t.StreamEnd) (flow_state false a p h (without_key ks))) { ended = true }

stops : (n a : ℕ) (p : Place) (h : List Token) (ks : Keys) → AreFree n ks → left_by (stream_end (flow_state false a p h ks)) ≡ Some (stopped a (forced p) h ks)
stops n a p h ks free =
    let end : State = flow_state false a (forced p) h ks in
    let shut : State → Option State = λ v. Some (record (pushed (at (mark_of (forced p)) t.StreamEnd) (allowing false (keyless v))) { ended = true }) in
    ap left_by (otherwise (is_required ks.key) _ _ free.key) ∙ ap shut (unrolled-same None false a (forced p) h ks)

-- the end of the text is fetched
step-end : (n a i j : ℕ) (h : List Token) (ks : Keys) → AreFree n ks
    → let p = here [] i 1 j in
    fetched (flow_state false a p h ks) ≡ Some (stopped a (forced p) h (still_fresh (mark_of p) ks))
step-end n a i j h ks free =
    let p : Place = here [] i 1 j in
    fetch-flow n false a p h ks free refl ∙ stops n a p h (still_fresh (mark_of p) ks) (still-free (mark_of p) n ks free)

text-owes : (p : Plain) → has_refused p ≡ false → is_bounded p ≡ true → Owes (start_state (text_at Condensed 0 p)) (json_stream_tokens p)
text-owes p accepted bounded =
    let cs : List ℕ = text_at Condensed 0 p in
    let h : List Token = start_token ∷ [] in
    let s0 : State = start_state cs in
    let s1 : State = flow_state true 0 (here cs 0 1 0) h no_keys in
    let P : List ℕ → Type 0 = λ x. Reads (flow_state true 0 (here x 0 1 0) h no_keys) (map type_of h) (json_tokens p) 0 [] in
    let empty : AreFree 0 no_keys = record { key = refl; outer = refl; levels = refl } in
    let r : Reads s1 (map type_of h) (json_tokens p) 0 [] = subst P (append-nil cs) (node p 0 0 (fit-whole p accepted bounded) true 0 [] 0 0 h no_keys empty refl) in
    let q : Place = here [] r.index 1 r.column in
    let late : Keys = still_fresh (mark_of q) r.keys in
    let end : State = stopped r.adjacent (forced q) r.held late in
    let last : fetched (reached r) ≡ Some end = step-end 0 r.adjacent r.index r.column r.held r.keys r.free in
    let stop : Token = at (mark_of (forced q)) t.StreamEnd in
    let with_stop : List TokenType → List TokenType = λ x. x ++ t.StreamEnd ∷ [] in
    record {
      end = end;
      steps = one_more s0 s1 end refl refl (steps-append s1 (reached r) end r.steps (one_more (reached r) end end refl last (none_more end)));
      ended = refl;
      timely = none-late (mark_of end.place) 0 (without_key late) (free-without 0 late (still-free (mark_of q) 0 r.keys r.free));
      given = map-append type_of r.held (stop ∷ []) ∙ ap with_stop r.given;
    }

-- a JSON text ends at no NUL, and owes its tokens
pub text-source : (p : Plain) → has_refused p ≡ false → is_bounded p ≡ true → Owes (start_scan (before_nul (text_at Condensed 0 p))).state (json_stream_tokens p)
text-source p accepted bounded =
    let whole : before_nul (text_at Condensed 0 p) ≡ text_at Condensed 0 p = without-nul (text_at Condensed 0 p) (no-nul p 0) in
    let P : List ℕ → Type 0 = λ x. Owes (start_scan x).state (json_stream_tokens p) in
    subst P (sym whole) (text-owes p accepted bounded)
