-- Contents that are written part by part.
use Rattle.snap_text.proofs.Prelude.{◌≡◌, ℕ, List, [], ◌∷◌, ◌++◌, refl, sym, ap, ◌∙◌, append_assoc, HasWritten, chars, IsUtf8, from_byte, written, trimmed, Inline, File, normal_as, width_as}
use Rattle.std.proofs.Output.{has_written_append, has_written_of_eq}
use Rattle.std.proofs.lemmas.Str.{encodes-append, encodes-chars}
use Rattle.std.specs.declared.fmt.Formatter.{Formatter}
use Rattle.snap_text_literals.specs.Lines.{IsUnbroken, IsLineThen, without_returns}
use Rattle.snap_text_literals.proofs.Written.{written-line, written-last, written-zero, written-inline}
use Rattle.snap_text.specs.declared.contents.TextSnapshotKind.{TextSnapshotKind}
use lib.Utf8.{encodes, encode}

-- what is written of contents is their normal form
pub written-as : (kind : TextSnapshotKind) (raw : List ℕ) → written (width_as kind raw) (trimmed raw) ≡ normal_as kind raw
written-as Inline raw = written-inline raw
written-as File raw = written-zero (trimmed raw)

-- what the formatter has written, and the rest, are the whole
pub record IsShown {W : Type 0} (took : W → List ℕ → W → Type 0) (before : Formatter W) (byte : ℕ) (whole rest : List ℕ) (now : Formatter W) : Type 0 where
  pub done : List ℕ
  pub output : HasWritten took before (encodes done) now
  pub same : done ++ written byte rest ≡ whole

end_bytes : encodes (10 ∷ []) ≡ 10 ∷ []
unfolding encode
end_bytes = refl

-- one more line is written, and its end
pub shown_line : {W : Type 0} (took : W → List ℕ → W → Type 0) (f g between next : Formatter W) (byte : ℕ) (whole rest line more cut bytes : List ℕ) → IsLineThen rest line more
    → IsUtf8 bytes → chars bytes ≡ without_returns cut → cut ≡ from_byte byte line → IsShown took f byte whole rest g → HasWritten took g bytes between
    → HasWritten took between (10 ∷ []) next → IsShown took f byte whole more next
shown_line took f g between next byte whole rest line more cut bytes split utf8 is cut_is shown one two =
    let text : List ℕ = without_returns (from_byte byte line) in
    let spelled : encodes text ≡ bytes = ap (λ t. encodes (without_returns t)) (sym cut_is) ∙ ap encodes (sym is) ∙ encodes-chars bytes utf8 in
    let same : (encodes shown.done ++ bytes) ++ 10 ∷ [] ≡ encodes (shown.done ++ text ++ 10 ∷ []) =
    ap (λ b. (encodes shown.done ++ b) ++ 10 ∷ []) (sym spelled) ∙ ap (λ b. b ++ 10 ∷ []) (sym (encodes-append shown.done text))
    ∙ ap (λ e. encodes (shown.done ++ text) ++ e) (sym end_bytes) ∙ sym (encodes-append (shown.done ++ text) (10 ∷ [])) in
    record {
      done = shown.done ++ text ++ 10 ∷ [];
      output =
          has_written_of_eq took f ((encodes shown.done ++ bytes) ++ 10 ∷ []) (encodes (shown.done ++ text ++ 10 ∷ [])) next same
          (has_written_append took f (encodes shown.done ++ bytes) between (10 ∷ []) next
          (has_written_append took f (encodes shown.done) g bytes between shown.output one) two);
      same =
          append_assoc (shown.done ++ text) (10 ∷ []) (written byte more) ∙ append_assoc shown.done text (10 ∷ written byte more)
          ∙ ap (λ t. shown.done ++ t) (sym (written-line byte rest line more split)) ∙ shown.same;
    }

-- the last line is written
pub shown_last : {W : Type 0} (took : W → List ℕ → W → Type 0) (f g next : Formatter W) (byte : ℕ) (whole rest bytes : List ℕ) → IsUnbroken rest → IsUtf8 bytes
    → chars bytes ≡ from_byte byte rest → IsShown took f byte whole rest g → HasWritten took g bytes next → HasWritten took f (encodes whole) next
shown_last took f g next byte whole rest bytes unbroken utf8 is shown one =
    let same : encodes shown.done ++ bytes ≡ encodes whole =
    ap (λ b. encodes shown.done ++ b) (sym (encodes-chars bytes utf8)) ∙ sym (encodes-append shown.done (chars bytes))
    ∙ ap encodes (ap (λ t. shown.done ++ t) (is ∙ sym (written-last byte rest unbroken)) ∙ shown.same) in
    has_written_of_eq took f (encodes shown.done ++ bytes) (encodes whole) next same (has_written_append took f (encodes shown.done) g bytes next shown.output one)
