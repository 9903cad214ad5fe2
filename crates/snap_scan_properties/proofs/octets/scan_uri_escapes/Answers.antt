use Rattle.snap_scan_properties.proofs.Prelude.{ℕ, refl, sym, subst, IsScalar, encode_utf8, Spells}
use Rattle.snap_scan_properties.proofs.Spelled.{character-spelled, no-first, no-further, no-code}
use Rattle.snap_scan_properties.proofs.octets.scan_uri_escapes.Goals as goal

pub returns-in_default-first_octet-clause-value : goal.returns-in_default-first_octet-clause-value
returns-in_default-first_octet-clause-value c =
    ((refl, λ k h. h), no-first c.args.cursor.now c.octet.new.cursor c.in-Some.first c.in-Some.ensures.value c.in_default-first_octet.ensures.value)

pub returns-in-Err-clause-value : goal.returns-in-Err-clause-value
returns-in-Err-clause-value c = (
  c.in-Err.ensures.value.0,
  no-further c.args.cursor.now c.octet.new.cursor c.in-Some.first c.in-Some-first_octet.count c.in-Some.ensures.value
      c.in-Some-first_octet.ensures.value.1 c.in-Err.ensures.value.1,
)

pub returns-in-None-clause-value : goal.returns-in-None-clause-value
returns-in-None-clause-value c = (
  (refl, λ k h. h),
  no-code c.args.cursor.now c.octet.new.cursor c.further_octets.new.cursor c.in-Some.first c.in-Some-first_octet.count c.in-Some-first_octet.bits c.in-Ok.code
      c.in-Some.ensures.value c.in-Some-first_octet.ensures.value.1 c.in-Some-first_octet.ensures.value.2 c.in-Ok.ensures.value c.in-None.ensures,
)

pub returns-in-Some-character-clause-value : goal.returns-in-Some-character-clause-value
returns-in-Some-character-clause-value c =
    let S : ℕ → Type 0 = λ n. IsScalar n in
    let P : ℕ → Type 0 = λ n. Spells c.args.cursor.now (encode_utf8 n) c.further_octets.new.cursor in (
      subst S (sym c.in-Some-character.ensures.0) c.in-Some-character.ensures.2,
      subst P (sym c.in-Some-character.ensures.0)
          (character-spelled c.args.cursor.now c.octet.new.cursor c.further_octets.new.cursor c.in-Some.first c.in-Some-first_octet.count c.in-Some-first_octet.bits c.in-Ok.code
          c.in-Some.ensures.value c.in-Some-first_octet.ensures.value.0 c.in-Some-first_octet.ensures.value.1 c.in-Some-first_octet.ensures.value.2
          c.in-Ok.ensures.value c.in-Some-character.ensures.1),
    )
