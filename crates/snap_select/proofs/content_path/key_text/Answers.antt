use Rattle.snap_select.proofs.Prelude.{◌≡◌, ℕ, List, Option, refl, subst, option_map_or, codes, chars}
use Rattle.snap_select.proofs.content_path.key_text.Goals as goal

content_chars : chars (codes "<content>") ≡ codes "<content>"
unfolding chars
content_chars = refl

pub returns-in-None : goal.returns-in-None
returns-in-None c =
    let P : Option (List ℕ) → Type 0 = λ o. chars (codes "<content>") ≡ option_map_or (λ text. text) o (codes "<content>") in subst P c.in-None.ensures content_chars
