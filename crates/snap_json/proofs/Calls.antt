-- What the answer of a call that writes a tree says of its keys and of the text.
use Rattle.snap_json.proofs.Prelude.{◌≡◌, ℕ, List, ◌++◌, true, false, sym, ap, ◌∙◌, Result, Ok, Err, OnOk, OnErr, IsErrOf, IsErrAnd, json_plain, json_text, json_refuses, Written, stopped, characters, is_stopped, written, before_first_refusal, IsAdded, IsStopped, IsBegun, Wrote, Format, JsonError, JsonKey}
use Rattle.snap_content.specs.Tree.{Tree}
use Rattle.snap_json.proofs.Accepted.{stopped-written, written-whole}

no_error : {E : Type 0} (x : Unit {0}) (e : E) → Ok x ≡ Err e → ⊥
no_error x e h = cc

one_error : {T E : Type 0} (d e : E) → IsErrOf {T = T} (Err d) e → d ≡ e
one_error d e h = cc

-- the text before, by another name
pub wrote_from : (r : Result (Unit {0}) JsonError) (old start new : List ℕ) (w : Written) → old ≡ start → Wrote r old new w → Wrote r start new w
wrote_from r old start new w same h = rw same at h

pub accepted_tree : (f : Format) (t : Tree) (old new : List ℕ) → IsAdded old new (written f 0 (json_plain t)) → json_refuses t ≡ false
accepted_tree f t old new h = sym (stopped-written f 0 (json_plain t)) ∙ ap is_stopped h.is_whole

pub text_added : (f : Format) (t : Tree) (old new : List ℕ) → IsAdded old new (written f 0 (json_plain t)) → new ≡ old ++ json_text f t
text_added f t old new h =
    let all = written-whole f 0 (json_plain t) (accepted_tree f t old new h) in
    h.is_new ∙ ap (λ w. old ++ characters w) (sym h.is_whole ∙ all)

refused_tree : (f : Format) (t : Tree) (added : List ℕ) → written f 0 (json_plain t) ≡ stopped added → json_refuses t ≡ true
refused_tree f t added h = sym (stopped-written f 0 (json_plain t)) ∙ ap is_stopped h

pub on_ok : (f : Format) (t : Tree) (r : Result (Unit {0}) JsonError) (old new : List ℕ) → Wrote r old new (written f 0 (json_plain t))
    → OnOk r (new ≡ old ++ json_text f t)
on_ok f t (Ok x) old new h = text_added f t old new h
on_ok f t (Err e) old new h = tt

pub on_accepted : (f : Format) (t : Tree) (r : Result (Unit {0}) JsonError) (old new : List ℕ) → Wrote r old new (written f 0 (json_plain t))
    → OnOk r (json_refuses t ≡ false)
on_accepted f t (Ok x) old new h = accepted_tree f t old new h
on_accepted f t (Err e) old new h = tt

pub on_begun : (f : Format) (t : Tree) (r : Result (Unit {0}) JsonError) (old new : List ℕ) → Wrote r old new (written f 0 (json_plain t))
    → OnErr r (IsBegun old new (before_first_refusal f t))
on_begun f t (Ok x) old new h = tt
on_begun f t (Err e) old new h = record { added = h.added; rest = h.rest; whole = h.is_full; is = h.is_new }

pub on_refused : (f : Format) (t : Tree) (r : Result (Unit {0}) JsonError) (old new : List ℕ) → Wrote r old new (written f 0 (json_plain t))
    → IsErrOf r JsonKey → json_refuses t ≡ true
on_refused f t (Ok x) old new h is = absurd (no_error x JsonKey is)
on_refused f t (Err e) old new h is = refused_tree f t h.added (h.at_key (one_error {T = Unit {0}} e JsonKey is))

pub on_key : (f : Format) (t : Tree) (r : Result (Unit {0}) JsonError) (old new : List ℕ) → Wrote r old new (written f 0 (json_plain t))
    → IsErrOf r JsonKey → new ≡ old ++ before_first_refusal f t
on_key f t (Ok x) old new h is = absurd (no_error x JsonKey is)
on_key f t (Err e) old new h is = h.is_new ∙ ap (λ w. old ++ characters w) (sym (h.at_key (one_error {T = Unit {0}} e JsonKey is)))

-- an error that a `?` hands on into another result
pub refused_exit : {T : Type 0} (f : Format) (t : Tree) (r : Result T JsonError) (e : JsonError) (old new : List ℕ) → IsErrAnd r (λ x. x ≡ e)
    → IsStopped e old new (written f 0 (json_plain t)) → IsErrOf r JsonKey → json_refuses t ≡ true
refused_exit {T} f t (Ok x) e old new given h is = absurd given
refused_exit {T} f t (Err d) e old new given h is = refused_tree f t h.added (h.at_key (sym given ∙ one_error {T = T} d JsonKey is))
