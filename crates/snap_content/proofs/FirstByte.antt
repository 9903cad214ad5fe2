-- A text that begins with a character of ASCII begins with its byte.
use Rattle.snap_content.proofs.Prelude.{◌≡◌, ◌==◌, ◌<◌, ℕ, Bool, false, List, [], ◌∷◌, ◌++◌, length, get_or, sym, ap, ◌∙◌, arith, chars, IsUtf8, encode, chars_past_char}
use Rattle.std.proofs.Common.{drop}
use Rattle.std.proofs.lemmas.List.{drop_more}
use Rattle.std.proofs.lemmas.Str.{encode_ascii, IsCharBoundary-after_ascii}
use Rattle.std.specs.Str.{IsCharBoundary}

pub after_first : (text : List ℕ) → IsUtf8 text → 0 < length text → get_or text 0 0 < 128 → IsCharBoundary text 1
after_first text utf8 some small = IsCharBoundary-after_ascii text 0 utf8 some small

pub first_is : (text rest : List ℕ) → IsUtf8 text → 0 < length text → get_or text 0 0 < 128 → rest ≡ drop 1 text → chars text ≡ get_or text 0 0 ∷ chars rest
first_is text rest utf8 some small is =
    let b = get_or text 0 0 in
    chars_past_char text rest b utf8 (drop_more text 0 0 some ∙ ap (λ t. b ∷ t) (sym is) ∙ ap (λ e. e ++ rest) (sym (encode_ascii b small)))

-- the same where the bytes are told apart
pub some_byte : (text bytes : List ℕ) → bytes ≡ text → false ≡ (length bytes == 0) → 0 < length text
some_byte [] bytes is none = absurd (let e = none ∙ ap (λ t. length t == 0) is in cc e)
some_byte (b ∷ bs) bytes is none = omega arith
