use Rattle.snap_assert_place.proofs.Prelude.{◌≡◌, ℕ, List, [], ◌∷◌, ◌++◌, sym, ap, ◌∙◌, subst, IfOk-weaker, front_of, IsName, joined-name}
use Rattle.snap_assert_place.proofs.below.below_folder.Goals as goal

pub returns-then-is_name : goal.returns-then-is_name
returns-then-is_name c =
    let Front : List ℕ → Type 0 = λ path. front_of path ≡ path ++ 47 ∷ [] in
    let Name : List ℕ → Type 0 = λ text. IsName text in
    let front = subst Front c.as_str.ensures (c.has_component.ensures c.if-has_component.true) in
    let named = subst Name c.as_str-then-has_component.ensures (c.is_name.ensures c.if-is_name.true) in
    IfOk-weaker c.push_name.result _ _
    (λ path h. h ∙ ap (λ f. f ++ c.args.tail.now) (sym front) ∙ sym (joined-name c.args.folder c.args.tail.now named))
    c.push_name.ensures
