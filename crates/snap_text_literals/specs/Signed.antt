-- A framed text, cut at its first sign.
use Rattle.std.specs.Prelude.{◌≡◌, ℕ, List, true}
use Rattle.snap_text_literals.specs.Frame.{is_framed, space_front, framed_text}

-- the text is framed: white space, the sign, and what follows it
pub record IsSigned (text space inside : List ℕ) : Type 0 where
  pub framed : is_framed text ≡ true
  pub space_is : space ≡ space_front text
  pub inside_is : inside ≡ framed_text text
