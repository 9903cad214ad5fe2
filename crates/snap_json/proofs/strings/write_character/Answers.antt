use Rattle.snap_json.proofs.Prelude.{◌≡◌, ℕ, [], ◌∷◌, ◌++◌, sym, ap, append-nil, json_escaped, json_string, whole}
use Rattle.snap_json.proofs.Behind.{on_exit, stopped_first, stopped_behind, stopped_as, wrote_behind, wrote_as}
use Rattle.snap_json.proofs.strings.write_character.Goals as goal

is_one : (c : ℕ) → whole (34 ∷ (json_escaped c ++ 34 ∷ [])) ≡ whole (json_string (c ∷ []))
is_one c = ap (λ x. whole (34 ∷ (x ++ 34 ∷ []))) (sym (append-nil (json_escaped c)))

pub returns-in_err-write_char : goal.returns-in_err-write_char
returns-in_err-write_char c =
    on_exit c.from_residual.result c.from_residual.ensures.1
    (stopped_as (whole (34 ∷ (json_escaped c.args.value ++ 34 ∷ []))) (whole (json_string (c.args.value ∷ []))) (is_one c.args.value)
    (stopped_first (whole (json_escaped c.args.value ++ 34 ∷ [])) c.in_err-write_char.ensures))

pub returns-in_err-write_escaped : goal.returns-in_err-write_escaped
returns-in_err-write_escaped c =
    on_exit c.from_residual-in_err-write_escaped.result c.from_residual-in_err-write_escaped.ensures.1
    (stopped_as (whole (34 ∷ (json_escaped c.args.value ++ 34 ∷ []))) (whole (json_string (c.args.value ∷ []))) (is_one c.args.value)
    (stopped_behind c.in_ok-write_char.ensures (stopped_first (whole (34 ∷ [])) c.in_err-write_escaped.ensures)))

pub returns : goal.returns
returns c =
    let r = c.write_char-2.result in
    let new = c.write_char-2.new.out in
    wrote_as r c.args.out.now new (whole (34 ∷ (json_escaped c.args.value ++ 34 ∷ []))) (whole (json_string (c.args.value ∷ []))) (is_one c.args.value)
    (wrote_behind r new (whole (json_escaped c.args.value ++ 34 ∷ [])) c.in_ok-write_char.ensures
    (wrote_behind r new (whole (34 ∷ [])) c.in_ok-write_escaped.ensures c.write_char-2.ensures))
