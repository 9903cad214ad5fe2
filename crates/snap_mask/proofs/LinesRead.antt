-- What a line is read as, or why it is not.
use Rattle.snap_mask.proofs.Prelude.{◌≡◌, ◌≤◌, nat_le, not, arith, has_long, levels, and_parts, ℕ, List, true, false, None, Some, refl, sym, ap, ◌∙◌, subst, some_same, Plain, content_of, Tree, IsWithin, IsUtf8, chars, Lacks, IsJsonOf, is_bounded, json_text, json_refuses, Condensed, ReplacementView, redacted_by, AreMasking, json_plain, beginning_in, beginning_of, IsJsonLine, IsNoJsonLine, IsValueOf, IsRecordOf, IsReadAgainAs, RefusesValue, RefusesFor, parse_stop, json_stop}
use Rattle.std.specs.Prelude.{Err, IsErrOf}
use Rattle.snap_content.specs.declared.error.Error.{Error}
use Rattle.snap_content.specs.declared.error.Error.TheVariants as parse
use Rattle.snap_json.specs.declared.error.JsonError.{JsonError}
use Rattle.snap_json.specs.declared.error.JsonError.TheVariants as json
use Rattle.snap_emit.specs.Parsed.{RefusalEnd}
use Rattle.snap_mask.specs.declared.beginning.Beginning.{Beginning}
use Rattle.snap_mask.specs.declared.record.RecordError.{RecordError}
use Rattle.snap_mask.specs.declared.record.RecordError.TheVariants.{BadLine, FloatLine, JsonKey, OutOfMemory}
use Rattle.snap_mask.proofs.Begun.{json_begins, json_lacks}
use Rattle.snap_mask.proofs.KeptKeys.{kept_keys, kept_within}
use Rattle.snap_mask.proofs.Levels.{rules_add_none, made_levels}
use Rattle.std.proofs.lemmas.Bool.Decides.{nat_tests}

-- a line that is no UTF-8, holds NUL, or begins as no JSON text does, is none
pub no_utf8 : (line : List ℕ) → (IsUtf8 line → ⊥) → IsNoJsonLine line
no_utf8 line other t j = other j.utf8

pub nul_held : (line text : List ℕ) → text ≡ line → (Lacks 0 (chars text) → ⊥) → IsNoJsonLine line
nul_held line text is held = subst IsNoJsonLine is (λ t j. held (json_lacks t (chars text) j.within j.json))

pub begins_badly : (line text : List ℕ) → text ≡ line → beginning_in (chars text) ≡ None → IsNoJsonLine line
begins_badly line text is none =
    subst IsNoJsonLine is (λ t j. let clash : None ≡ Some (beginning_of (content_of t)) = sym none ∙ json_begins t (chars text) j.within j.json in cc)

-- a JSON text is read as its tree
abbrev pub Reads : List ℕ → Tree → Type 0
Reads text value = (t : Plain) → IsWithin t → IsJsonOf t text → value ≡ content_of t

-- so is a line that begins otherwise than what was read of it
pub begins_otherwise : (line text : List ℕ) (value : Tree) (b : Beginning) → text ≡ line → beginning_in (chars text) ≡ Some b → (beginning_of value ≡ b → ⊥)
    → Reads (chars text) value → IsNoJsonLine line
begins_otherwise line text value b is begins misfit reads =
    subst IsNoJsonLine is (λ t j.
    misfit (ap beginning_of (reads t j.within j.json) ∙ sym (some_same b (beginning_of (content_of t)) (sym begins ∙ json_begins t (chars text) j.within j.json))))

pub misfit_refused : (why : RecordError) (line text : List ℕ) (value : Tree) (b : Beginning) → text ≡ line → beginning_in (chars text) ≡ Some b
    → (why ≡ BadLine) × (beginning_of value ≡ b → ⊥) → Reads (chars text) value → RefusesValue why line
misfit_refused why line text value b is begins h reads =
    subst (λ e. RefusesValue e line) (sym h.0) (begins_otherwise line text value b is begins h.1 reads)

pub value_read : (line text : List ℕ) (value made : Tree) (b : Beginning) → text ≡ line → IsUtf8 line → Lacks 0 (chars text) → beginning_in (chars text) ≡ Some b
    → made ≡ value → beginning_of made ≡ b → Reads (chars text) value → IsValueOf line made
value_read line text value made b is utf8 whole begins same fits reads =
    subst (λ l. IsValueOf l made) is (record {
      utf8 = subst IsUtf8 (sym is) utf8;
      whole = whole;
      begins = begins ∙ ap Some (sym fits);
      one = λ t j. same ∙ reads t j.within j.json;
    })

-- a line that the reader refuses
parse_refused_at : (line path : List ℕ) (e : Error) → RefusalEnd (chars line) path e → ((t : Plain) → IsWithin t → IsJsonOf t (chars line) → e ≡ parse.OutOfMemory)
    → RefusesValue (parse_stop e) line
parse_refused_at line path (parse.FailedParsingYaml named) end memory = λ t j. let e = memory t j.within j.json in cc
parse_refused_at line path parse.UnexpectedDataType end memory = absurd end
parse_refused_at line path parse.MissingField end memory = absurd end
parse_refused_at line path (parse.FileIo named) end memory = absurd end
parse_refused_at line path (parse.FloatText named) end memory = (λ t j. let e = memory t j.within j.json in cc, end.0.1)
parse_refused_at line path parse.JsonKey end memory = absurd end
parse_refused_at line path (parse.NotText named) end memory = absurd end
parse_refused_at line path (parse.NoFile named) end memory = absurd end
parse_refused_at line path parse.OutOfMemory end memory = tt

pub parse_refused : (line text path : List ℕ) (e : Error) → text ≡ line → RefusalEnd (chars text) path e
    → ((t : Plain) → IsWithin t → IsJsonOf t (chars text) → e ≡ parse.OutOfMemory) → RefusesValue (parse_stop e) line
parse_refused line text path e is end memory = subst (RefusesValue (parse_stop e)) is (parse_refused_at text path e end memory)

-- what refuses the value refuses the record
pub no_value : (rules : List ReplacementView) (why : RecordError) (line : List ℕ) → RefusesValue why line → RefusesFor rules why line
no_value rules BadLine line h = h
no_value rules FloatLine line h = h
no_value rules JsonKey line h = absurd h
no_value rules OutOfMemory line h = h

-- a key that JSON refuses stands in no JSON text
pub refused_key : (rules : List ReplacementView) (line : List ℕ) (value masked : Tree) (e : JsonError) → AreMasking rules → IsValueOf line value
    → masked ≡ redacted_by rules value → (e ≡ json.JsonKey → json_refuses masked ≡ true) → RefusesFor rules (json_stop e) line
refused_key rules line value masked json.OutOfMemory m read is refuses = tt
refused_key rules line value masked json.JsonKey m read is refuses =
    let refused : json_refuses (redacted_by rules value) ≡ true = sym (ap json_refuses is) ∙ refuses refl in (
      λ t j. let clash : true ≡ false = sym refused ∙ ap (λ v. json_refuses (redacted_by rules v)) (read.one t j) ∙ kept_keys rules t m j.within j.json.0 in cc,
      record { value = value; read = read; refused = refused },
    )

-- an error is one of a key where it is that error
pub is_refused_key : {T : Type 0} (e : JsonError) (masked : Tree) → (IsErrOf {T = T} (Err e) json.JsonKey → json_refuses masked ≡ true)
    → e ≡ json.JsonKey → json_refuses masked ≡ true
is_refused_key e masked refuses is = refuses (ap Err is)

-- a tree that is no deeper than one within the bounds, and has no long key, is within them too
stays_bounded : (new old : Plain) → levels new ≤ levels old → is_bounded old ≡ true → has_long new ≡ false → is_bounded new ≡ true
stays_bounded new old less bounded short =
    let shallow : nat_le (levels old) 1023 ≡ true = (and_parts (nat_le (levels old) 1023) (not (has_long old)) bounded).0 in
    let within : nat_le (levels new) 1023 ≡ true = grind (arith, nat_tests) in
    rw (within, short) refl

-- the record of a JSON text, where no key became long, is one too
pub read_again : (rules : List ReplacementView) (t : Plain) (line given : List ℕ) → AreMasking rules → IsJsonLine t line → IsRecordOf rules line given
    → has_long (json_plain (redacted_by rules (content_of t))) ≡ false → IsReadAgainAs (json_plain (redacted_by rules (content_of t))) given
read_again rules t line given m j made short =
    let less : levels (json_plain (redacted_by rules (content_of t))) ≤ levels t =
    subst (λ n. levels (json_plain (redacted_by rules (content_of t))) ≤ n) (made_levels t) (rules_add_none rules (content_of t) m) in
    record {
      within = kept_within rules t m j.within j.json.0;
      json = (
        kept_keys rules t m j.within j.json.0,
        stays_bounded (json_plain (redacted_by rules (content_of t))) t less j.json.1 short,
        made.is ∙ ap (λ v. json_text Condensed (redacted_by rules v)) (made.read.one t j),
      );
    }
