-- A tree is one request, or none for a reason.
use Rattle.snap_run_requests.proofs.Prelude.{◌≡◌, ℕ, zero, suc, ◌||◌, Bool, true, false, not, is_some, option_map, List, [], ◌∷◌, Option, None, Some, refl, sym, ap, ◌∙◌, subst, arith, slice_get, list_all, chars, IsUtf8, Plain, content_of, MayBeReadAs, Result, Ok, Err, IsErrOf, option_and_then, tree_text, tree_line, selector_selected, ReplacementView, IsKeyFault, IsMapOf, IsTreeFault, IsTreeEnd, IsAssertionFault, IsBlockFault, IsPairsFault, request_of, IsRedactionFault, IsReason, IsRefused, is_map, names_file, text_at, line_at, name_of, value_at, assertion_table, block_table, redaction_table, asks_for_block, has_name, is_block_word, keys_in, is_one_of, IsKeyed, truth_of, list_of, AssertionView, RequestView, asserts, begins, ends, IsAssertion, IsBlock, IsRequest, text_if, text_or_empty, IsRedaction, AreRedactions, AreRedactionsAt, Spells, ReadsAs}
use Rattle.std.specs.Prelude.{unwrap_or}
use Rattle.std.specs.Result.{MatchResult}
use Rattle.snap_content.proofs.PlainMade.{plain_made}
use Rattle.snap_content.specs.Plain.{plain}
use Rattle.snap_content.specs.View as v
use Rattle.snap_content.specs.declared.content.Content.{Content}
use Rattle.snap_content.proofs.Booleans.{both_first, both_second}
use Rattle.snap_print.specs.Readable.{IsWithin}
use Rattle.snap_content.specs.Tree.{Tree, Trees, no_trees, tree, TreePairs, map}
use Rattle.snap_emit.proofs.OneText.{one_tree}
use Rattle.snap_emit.specs.Spelled.{IsTextOf}
use Rattle.snap_select.specs.Grammar.{IsSelector}
use Rattle.snap_select.specs.Parts.{Parts}
use Rattle.snap_run_requests.specs.Faults.{IsUnknownAt, IsWrongAt, HasNoSelector, HasNothingPut, HasBoth, IsNoneAt, MayBeRead, trees_in, is_true}
use Rattle.snap_run_requests.specs.Requests.{put_by, sorted_if, sorted_by}
use Rattle.snap_run_requests.specs.declared.key.Key.{Key}
use Rattle.snap_run_requests.specs.declared.key.Key.TheVariants.{Module, File, Line, Name, Function, Suffix, Expr, Value, Redactions, Sort, At, Put, Duplicates}
use Rattle.snap_run_requests.specs.declared.fault.KeyFault.{KeyFault}
use Rattle.snap_run_requests.specs.declared.fault.KeyFault.TheVariants.{Missing, Twice, Unknown, WrongKind}
use Rattle.snap_run_requests.specs.declared.fault.RedactionFault.{RedactionFault}
use Rattle.snap_run_requests.specs.declared.fault.RedactionFault.TheVariants as redaction
use Rattle.snap_run_requests.specs.declared.fault.Reason.{Reason}
use Rattle.snap_run_requests.specs.declared.fault.Reason.TheVariants as reason
use Rattle.snap_run_requests.specs.declared.fault.RequestError.{RequestError}
use Rattle.snap_run_requests.specs.declared.fault.RequestError.TheVariants as end
use Rattle.snap_run_requests.specs.declared.request.Request.{Request}

-- two ways in which one tree is a map
same_pairs : (t : Tree) (ps qs : TreePairs) → t ≡ map ps → t ≡ map qs → ps ≡ qs
same_pairs t ps qs a b = cc

-- a key that all keys are tested for, and one that fails the test
pass_at : (test : Tree → Bool) (keys : List Tree) (i : ℕ) (key : Tree) → list_all test keys ≡ true → slice_get keys i ≡ Some key → test key ≡ true
pass_at test [] i key all there = absurd (cc)
pass_at test (k ∷ keys) zero key all there = let same : k ≡ key = cc in ap test (sym same) ∙ both_first (test k) (list_all test keys) all
pass_at test (k ∷ keys) (suc i) key all there = pass_at test keys i key (both_second (test k) (list_all test keys) all) there

-- keys that are right are not wrong
unknown_known : (keys : List Key) (pairs : TreePairs) (place : ℕ) → IsKeyed keys pairs → IsUnknownAt keys pairs place → ⊥
unknown_known keys pairs place keyed unknown =
    let clash = sym unknown.other ∙ pass_at (is_one_of keys) (keys_in pairs) place unknown.key keyed.known unknown.there in
    cc clash

-- what is told of a field that is not there, or of one that is of another kind
missed : {A : Type 0} (f : Tree → Option A) (o : Option Tree) (a : A) → option_and_then f o ≡ Some a → o ≡ None → ⊥
missed f None a there none = cc
missed f (Some value) a there none = cc

wrong : {A : Type 0} (f : Tree → Option A) (o : Option Tree) (a : A) (value : Tree) → option_and_then f o ≡ Some a → o ≡ Some value → is_some (f value) ≡ false → ⊥
wrong f None a value there is fails = cc
wrong f (Some held) a value there is fails =
    let same : held ≡ value = cc in
    let clash = ap is_some (sym there) ∙ ap (λ v. is_some (f v)) same ∙ fails in
    cc clash

wrong_list : (o : Option Tree) (value : Tree) (rs : List ReplacementView) → AreRedactionsAt o rs → o ≡ Some value → is_some (list_of value) ≡ false → ⊥
wrong_list None value rs are is fails = cc
wrong_list (Some held) value rs are is fails =
    let same : held ≡ value = cc in
    let clash = ap is_some (sym are.is) ∙ ap (λ v. is_some (list_of v)) same ∙ fails in
    cc clash

wrong_sort : (o : Option Tree) (value : Tree) (sort : Bool) → sorted_by o ≡ Some sort → o ≡ Some value → is_some (truth_of value) ≡ false → ⊥
wrong_sort None value sort there is fails = cc
wrong_sort (Some held) value sort there is fails =
    let same : held ≡ value = cc in
    let clash = ap is_some (sym there) ∙ ap (λ v. is_some (truth_of v)) same ∙ fails in
    cc clash

-- a text that may be missing is no other thing
wrong_if : (o : Option Tree) (value : Tree) (name : Option (List ℕ)) → text_if o ≡ Some name → o ≡ Some value → is_some (tree_text value) ≡ false → ⊥
wrong_if None value name there is fails = cc
wrong_if (Some held) value name there is fails =
    let same : held ≡ value = cc in
    some_if (tree_text held) name there (ap (λ v. is_some (tree_text v)) same ∙ fails)
  where
    some_if : (o : Option (List ℕ)) (name : Option (List ℕ)) → option_map Some o ≡ Some name → is_some o ≡ false → ⊥
    some_if None name there fails = cc
    some_if (Some text) name there fails = cc

wrong_or_empty : (o : Option Tree) (value : Tree) (text : List ℕ) → text_or_empty o ≡ Some text → o ≡ Some value → is_some (tree_text value) ≡ false → ⊥
wrong_or_empty None value text there is fails = cc
wrong_or_empty (Some held) value text there is fails =
    let same : held ≡ value = cc in
    let clash = ap is_some (sym there) ∙ ap (λ v. is_some (tree_text v)) same ∙ fails in
    cc clash

-- where no name stands, a function does
uncalled : (named : Bool) (function : Option Tree) → named || is_some function ≡ true → not named ≡ true → function ≡ None → ⊥
uncalled true function called needed none = cc
uncalled false None called needed none = cc
uncalled false (Some value) called needed none = cc

missing_key : (t : Tree) (r : AssertionView) (q : IsAssertion t r) (key : Key) → assertion_table.needs q.pairs key ≡ true → value_at key q.pairs ≡ None → ⊥
missing_key t r q Module needed none = missed tree_text _ _ q.module_name none
missing_key t r q File needed none = missed tree_text _ _ q.file none
missing_key t r q Line needed none = missed tree_line _ _ q.line none
missing_key t r q Name needed none = cc needed
missing_key t r q Function needed none = uncalled (has_name q.pairs) (value_at Function q.pairs) q.called needed none
missing_key t r q Suffix needed none = cc needed
missing_key t r q Expr needed none = missed tree_text _ _ q.expr none
missing_key t r q Value needed none = let clash = sym q.value ∙ none in cc clash
missing_key t r q Redactions needed none = cc needed
missing_key t r q Sort needed none = cc needed
missing_key t r q At needed none = cc needed
missing_key t r q Put needed none = cc needed
missing_key t r q Duplicates needed none = cc needed

wrong_key : (t : Tree) (r : AssertionView) (q : IsAssertion t r) (key : Key) → IsWrongAt assertion_table q.pairs key → ⊥
wrong_key t r q Module w = wrong tree_text _ _ w.value q.module_name w.there w.wrong
wrong_key t r q File w = wrong tree_text _ _ w.value q.file w.there w.wrong
wrong_key t r q Line w = wrong tree_line _ _ w.value q.line w.there w.wrong
wrong_key t r q Name w = wrong_if _ w.value _ q.name w.there w.wrong
wrong_key t r q Function w = wrong_or_empty _ w.value _ q.function w.there w.wrong
wrong_key t r q Suffix w = wrong_or_empty _ w.value _ q.suffix w.there w.wrong
wrong_key t r q Expr w = wrong tree_text _ _ w.value q.expr w.there w.wrong
wrong_key t r q Value w = let clash = w.wrong in cc clash
wrong_key t r q Redactions w = wrong_list _ w.value _ q.redactions w.there w.wrong
wrong_key t r q Sort w = wrong_sort _ w.value _ q.sort w.there w.wrong
wrong_key t r q At w = let clash = w.wrong in cc clash
wrong_key t r q Put w = let clash = w.wrong in cc clash
wrong_key t r q Duplicates w = let clash = w.wrong in cc clash

key_fault : (t : Tree) (r : AssertionView) (q : IsAssertion t r) (fault : KeyFault) → IsKeyFault assertion_table q.pairs fault → ⊥
key_fault t r q (Missing key) f = missing_key t r q key f.0 f.1
key_fault t r q (Twice key) f = let few = q.keyed.once key in omega (arith, few, f)
key_fault t r q (Unknown place) f = unknown_known assertion_table.keys q.pairs place q.keyed f
key_fault t r q (WrongKind key) f = wrong_key t r q key f

-- the same of a block

there_asks : (o : Option Tree) (word : List ℕ) → option_and_then tree_text o ≡ Some word → is_some o ≡ true
there_asks None word there = cc
there_asks (Some value) word there = refl

asks : (t : Tree) (word : List ℕ) (q : IsBlock t word) → asks_for_block q.pairs ≡ true
asks t word q = there_asks _ word q.there

wrong_word : (o : Option Tree) (word : List ℕ) (value : Tree) → option_and_then tree_text o ≡ Some word → is_block_word (Some word) ≡ true → o ≡ Some value
    → is_block_word (tree_text value) ≡ false → ⊥
wrong_word None word value there is held fails = cc
wrong_word (Some other) word value there is held fails =
    let same : other ≡ value = cc in
    let clash = sym is ∙ ap is_block_word (sym there) ∙ ap (λ v. is_block_word (tree_text v)) same ∙ fails in
    cc clash

block_missing : (t : Tree) (word : List ℕ) (q : IsBlock t word) (key : Key) → block_table.needs q.pairs key ≡ true → value_at key q.pairs ≡ None → ⊥
block_missing t word q Duplicates needed none = missed tree_text _ _ q.there none
block_missing t word q Module needed none = cc needed
block_missing t word q File needed none = cc needed
block_missing t word q Line needed none = cc needed
block_missing t word q Name needed none = cc needed
block_missing t word q Function needed none = cc needed
block_missing t word q Suffix needed none = cc needed
block_missing t word q Expr needed none = cc needed
block_missing t word q Value needed none = cc needed
block_missing t word q Redactions needed none = cc needed
block_missing t word q Sort needed none = cc needed
block_missing t word q At needed none = cc needed
block_missing t word q Put needed none = cc needed

block_wrong : (t : Tree) (word : List ℕ) (q : IsBlock t word) (key : Key) → is_block_word (Some word) ≡ true → IsWrongAt block_table q.pairs key → ⊥
block_wrong t word q Duplicates is w = wrong_word _ word w.value q.there is w.there w.wrong
block_wrong t word q Module is w = let clash = w.wrong in cc clash
block_wrong t word q File is w = let clash = w.wrong in cc clash
block_wrong t word q Line is w = let clash = w.wrong in cc clash
block_wrong t word q Name is w = let clash = w.wrong in cc clash
block_wrong t word q Function is w = let clash = w.wrong in cc clash
block_wrong t word q Suffix is w = let clash = w.wrong in cc clash
block_wrong t word q Expr is w = let clash = w.wrong in cc clash
block_wrong t word q Value is w = let clash = w.wrong in cc clash
block_wrong t word q Redactions is w = let clash = w.wrong in cc clash
block_wrong t word q Sort is w = let clash = w.wrong in cc clash
block_wrong t word q At is w = let clash = w.wrong in cc clash
block_wrong t word q Put is w = let clash = w.wrong in cc clash

block_key : (t : Tree) (word : List ℕ) (q : IsBlock t word) (fault : KeyFault) → is_block_word (Some word) ≡ true → IsKeyFault block_table q.pairs fault → ⊥
block_key t word q (Missing key) is f = block_missing t word q key f.0 f.1
block_key t word q (Twice key) is f = let few = q.keyed.once key in omega (arith, few, f)
block_key t word q (Unknown place) is f = unknown_known block_table.keys q.pairs place q.keyed f
block_key t word q (WrongKind key) is f = block_wrong t word q key is f

-- the same of redactions

not_true : (o : Option Bool) (put : Tree → Tree) → sorted_if o ≡ Some put → o ≡ Some true
not_true None put is = cc
not_true (Some true) put is = refl
not_true (Some false) put is = cc

nothing_put : (put sort : Option Tree) (p : Tree → Tree) → put_by put sort ≡ Some p → put ≡ None → is_true sort ≡ false → ⊥
nothing_put None None p is none fails = cc
nothing_put None (Some value) p is none fails =
    let clash = sym (ap (λ o. unwrap_or o false) (not_true (truth_of value) p is)) ∙ fails in cc clash
nothing_put (Some value) sort p is none fails = cc

both_put : (put sort : Option Tree) (p : Tree → Tree) → put_by put sort ≡ Some p → is_some put ≡ true → is_some sort ≡ true → ⊥
both_put None sort p is a b = cc
both_put (Some value) None p is a b = cc
both_put (Some value) (Some other) p is a b = cc

sort_put : (put sort : Option Tree) (p : Tree → Tree) (value : Tree) → put_by put sort ≡ Some p → sort ≡ Some value → is_some (truth_of value) ≡ false → ⊥
sort_put None None p value is there fails = cc
sort_put None (Some held) p value is there fails =
    let same : held ≡ value = cc in
    let clash = ap is_some (sym (not_true (truth_of held) p is)) ∙ ap (λ v. is_some (truth_of v)) same ∙ fails in
    cc clash
sort_put (Some put) None p value is there fails = cc
sort_put (Some put) (Some held) p value is there fails = cc

redaction_missing : (t : Tree) (r : ReplacementView) (q : IsRedaction t r) (key : Key) → redaction_table.needs q.pairs key ≡ true → value_at key q.pairs ≡ None → ⊥
redaction_missing t r q At needed none = missed tree_text _ _ q.selector.there none
redaction_missing t r q Module needed none = cc needed
redaction_missing t r q File needed none = cc needed
redaction_missing t r q Line needed none = cc needed
redaction_missing t r q Name needed none = cc needed
redaction_missing t r q Function needed none = cc needed
redaction_missing t r q Suffix needed none = cc needed
redaction_missing t r q Duplicates needed none = cc needed
redaction_missing t r q Expr needed none = cc needed
redaction_missing t r q Value needed none = cc needed
redaction_missing t r q Redactions needed none = cc needed
redaction_missing t r q Sort needed none = cc needed
redaction_missing t r q Put needed none = cc needed

redaction_wrong : (t : Tree) (r : ReplacementView) (q : IsRedaction t r) (key : Key) → IsWrongAt redaction_table q.pairs key → ⊥
redaction_wrong t r q At w = wrong tree_text _ _ w.value q.selector.there w.there w.wrong
redaction_wrong t r q Sort w = sort_put _ _ _ w.value q.puts w.there w.wrong
redaction_wrong t r q Module w = let clash = w.wrong in cc clash
redaction_wrong t r q File w = let clash = w.wrong in cc clash
redaction_wrong t r q Line w = let clash = w.wrong in cc clash
redaction_wrong t r q Name w = let clash = w.wrong in cc clash
redaction_wrong t r q Function w = let clash = w.wrong in cc clash
redaction_wrong t r q Suffix w = let clash = w.wrong in cc clash
redaction_wrong t r q Duplicates w = let clash = w.wrong in cc clash
redaction_wrong t r q Expr w = let clash = w.wrong in cc clash
redaction_wrong t r q Value w = let clash = w.wrong in cc clash
redaction_wrong t r q Redactions w = let clash = w.wrong in cc clash
redaction_wrong t r q Put w = let clash = w.wrong in cc clash

redaction_key : (t : Tree) (r : ReplacementView) (q : IsRedaction t r) (fault : KeyFault) → IsKeyFault redaction_table q.pairs fault → ⊥
redaction_key t r q (Missing key) f = redaction_missing t r q key f.0 f.1
redaction_key t r q (Twice key) f = let few = q.keyed.once key in omega (arith, few, f)
redaction_key t r q (Unknown place) f = unknown_known redaction_table.keys q.pairs place q.keyed f
redaction_key t r q (WrongKind key) f = redaction_wrong t r q key f

no_map : (t : Tree) (ps : TreePairs) → t ≡ map ps → is_map t ≡ false → ⊥
no_map t ps is fails = let clash = ap is_map (sym is) ∙ fails in cc clash

-- what holds of the pairs of a map, holds of them under another name
moved : (t : Tree) (P : TreePairs → Type 0) (ps : TreePairs) → t ≡ map ps → IsMapOf t P → P ps
moved t P ps is m = subst P (same_pairs t m.pairs ps m.is is) m.holds

one_text : (o : Option (List ℕ)) (a b : List ℕ) → o ≡ Some a → o ≡ Some b → a ≡ b
one_text o a b h k = cc

no_selector : (t : Tree) (r : ReplacementView) (q : IsRedaction t r) (at : List ℕ) (parts_refused : (parts : Parts) → IsSelector at parts → ⊥) → q.selector.at ≡ at → ⊥
no_selector t r q at refused same = refused r.parts (subst (λ text. IsSelector text r.parts) same q.selector.selects)

no_redaction : (t : Tree) (r : ReplacementView) (fault : RedactionFault) → IsRedactionFault t fault → IsRedaction t r → ⊥
no_redaction t r redaction.NoMap f q = no_map t q.pairs q.is f
no_redaction t r (redaction.Key fault) f q = redaction_key t r q fault (moved t _ q.pairs q.is f)
no_redaction t r (redaction.NoSelector error) f q =
    let h = moved t (λ pairs. HasNoSelector pairs error) q.pairs q.is f in
    no_selector t r q h.at h.fault.refused (one_text _ q.selector.at h.at q.selector.there h.there)
no_redaction t r redaction.NothingPut f q = let h = moved t HasNothingPut q.pairs q.is f in nothing_put _ _ _ q.puts h.put h.sort
no_redaction t r redaction.PutAndSort f q = let h = moved t HasBoth q.pairs q.is f in both_put _ _ _ q.puts h.put h.sort

no_item : (items : Trees) (rs : List ReplacementView) (i : ℕ) (item : Tree) (fault : RedactionFault) → AreRedactions items rs → slice_get (trees_in items) i ≡ Some item → IsRedactionFault item fault → ⊥
no_item no_trees rs i item fault are there f = cc
no_item (tree t ts) [] i item fault are there f = are
no_item (tree t ts) (r ∷ rs) zero item fault are there f = let same : t ≡ item = cc in no_redaction t r fault (subst (λ x. IsRedactionFault x fault) (sym same) f) are.0
no_item (tree t ts) (r ∷ rs) (suc i) item fault are there f = no_item ts rs i item fault are.1 there f

no_redactions : (o : Option Tree) (rs : List ReplacementView) (items : Trees) (place : ℕ) (fault : RedactionFault) → AreRedactionsAt o rs → option_and_then list_of o ≡ Some items → IsNoneAt items place fault → ⊥
no_redactions None rs items place fault are there none = cc
no_redactions (Some value) rs items place fault are there none =
    let same : items ≡ are.items = cc (there, are.is) in
    no_item are.items rs place none.item fault are.each (ap (λ x. slice_get (trees_in x) place) (sym same) ∙ none.there) none.holds

no_assertion : (t : Tree) (r : AssertionView) (why : Reason) (q : IsAssertion t r) → IsAssertionFault q.pairs why → ⊥
no_assertion t r (reason.Key fault) q f = key_fault t r q fault f.holds
no_assertion t r reason.NoFile q f =
    let clash = sym f.other ∙ ap names_file (one_text _ f.file r.file f.there q.file) ∙ q.of_file in
    cc clash
no_assertion t r (reason.NoRedaction place fault) q f = no_redactions _ r.redactions f.items place fault q.redactions f.there f.none
no_assertion t r (reason.NotUtf8 place) q f = f
no_assertion t r (reason.NoTree refusal) q f = f
no_assertion t r reason.NoMap q f = f

no_block : (t : Tree) (word : List ℕ) (why : Reason) (q : IsBlock t word) → is_block_word (Some word) ≡ true → IsBlockFault q.pairs why → ⊥
no_block t word (reason.Key fault) q is f = block_key t word q fault is f.holds
no_block t word reason.NoFile q is f = f
no_block t word (reason.NoRedaction place fault) q is f = f
no_block t word (reason.NotUtf8 place) q is f = f
no_block t word (reason.NoTree refusal) q is f = f
no_block t word reason.NoMap q is f = f

-- what is wrong with the pairs of a map is wrong with those of the request
none_of : (t : Tree) (r : RequestView) (why : Reason) → IsMapOf t (λ pairs. IsPairsFault (asks_for_block pairs) pairs why) → IsRequest t r → ⊥
none_of t (asserts r) why f q =
    no_assertion t r why q (subst (λ b. IsPairsFault b q.pairs why) q.no_block (moved t (λ pairs. IsPairsFault (asks_for_block pairs) pairs why) q.pairs q.is f))
none_of t begins why f q =
    no_block t _ why q refl (subst (λ b. IsPairsFault b q.pairs why) (asks t _ q) (moved t (λ pairs. IsPairsFault (asks_for_block pairs) pairs why) q.pairs q.is f))
none_of t ends why f q =
    no_block t _ why q refl (subst (λ b. IsPairsFault b q.pairs why) (asks t _ q) (moved t (λ pairs. IsPairsFault (asks_for_block pairs) pairs why) q.pairs q.is f))

no_map_of : (t : Tree) (r : RequestView) → is_map t ≡ false → IsRequest t r → ⊥
no_map_of t (asserts r) f q = no_map t q.pairs q.is f
no_map_of t begins f q = no_map t q.pairs q.is f
no_map_of t ends f q = no_map t q.pairs q.is f

-- no tree is a request that has a fault
pub no_request : (t : Tree) (r : RequestView) (why : Reason) → IsTreeFault t why → IsRequest t r → ⊥
no_request t r (reason.NotUtf8 place) f q = f
no_request t r (reason.NoTree refusal) f q = f
no_request t r reason.NoMap f q = no_map_of t r f q
no_request t r (reason.Key fault) f q = none_of t r (reason.Key fault) f q
no_request t r reason.NoFile f q = none_of t r reason.NoFile f q
no_request t r (reason.NoRedaction place fault) f q = none_of t r (reason.NoRedaction place fault) f q

-- a document that may be read as a tree with a fault spells no request
none_read : (document : List ℕ) (why : Reason) (r : RequestView) → MayBeRead document (λ t. IsTreeFault t why) → Spells document r → ⊥
none_read document why r read s =
    no_request (content_of s.tree) r why (subst (λ p. IsTreeFault (content_of p) why) (read.read s.tree s.within s.text) read.holds) s.request_is

pub none_spelled : (document : List ℕ) (why : Reason) (r : RequestView) → IsReason document why → Spells document r → ⊥
none_spelled document (reason.NotUtf8 place) r h s = h.0 s.utf8
none_spelled document (reason.NoTree refusal) r h s = h.unspelled s.tree s.within s.text
none_spelled document reason.NoMap r h s = none_read document reason.NoMap r h s
none_spelled document (reason.Key fault) r h s = none_read document (reason.Key fault) r h s
none_spelled document reason.NoFile r h s = none_read document reason.NoFile r h s
none_spelled document (reason.NoRedaction place fault) r h s = none_read document (reason.NoRedaction place fault) r h s

pub refused_spells_none : (document text : List ℕ) (result : Result Request RequestError) → text ≡ document
    → MatchResult result (λ request. ReadsAs text (request_of request)) (λ error. IsRefused text error) → (why : Reason)
    → IsErrOf result (end.NoRequest why) → (r : RequestView) → Spells document r → ⊥
refused_spells_none document text (Ok request) same h why is r s = cc is
refused_spells_none document text (Err error) same h why is r s =
    let so : error ≡ end.NoRequest why = cc is in
    none_spelled document why r (subst (λ d. IsReason d why) same (subst (λ e. IsRefused text e) so h)) s

-- what is said of a tree is said of a document that is read as it

refused_for : (text : List ℕ) (held : Plain) (why : Reason) → IsUtf8 text → MayBeReadAs (chars text) held → IsTreeFault (content_of held) why → IsReason text why
refused_for text held (reason.NotUtf8 place) utf8 read f = absurd f
refused_for text held (reason.NoTree refusal) utf8 read f = absurd f
refused_for text held reason.NoMap utf8 read f = record { utf8 = utf8; plain = held; read = read; holds = f }
refused_for text held (reason.Key fault) utf8 read f = record { utf8 = utf8; plain = held; read = read; holds = f }
refused_for text held reason.NoFile utf8 read f = record { utf8 = utf8; plain = held; read = read; holds = f }
refused_for text held (reason.NoRedaction place fault) utf8 read f = record { utf8 = utf8; plain = held; read = read; holds = f }

pub read_so : (text : List ℕ) (content : Content) (held : Plain) (result : Result Request RequestError) → IsUtf8 text → v.tree content ≡ content_of held
    → ((t : Plain) → IsWithin t → IsTextOf (chars text) t → v.tree content ≡ content_of t)
    → MatchResult result (λ request. IsRequest (v.tree content) (request_of request)) (λ error. IsTreeEnd (v.tree content) error)
    → MatchResult result (λ request. ReadsAs text (request_of request)) (λ error. IsRefused text error)
read_so text content held (Ok request) utf8 is only h = record {
  utf8 = utf8;
  tree = held;
  read = λ t within of. sym (plain_made held) ∙ ap plain (sym is ∙ only t within of) ∙ plain_made t;
  request_is = subst (λ t. IsRequest t (request_of request)) is h;
}
read_so text content held (Err (end.NoRequest why)) utf8 is only h =
    refused_for text held why utf8 (λ t within of. sym (plain_made held) ∙ ap plain (sym is ∙ only t within of) ∙ plain_made t) (subst (λ t. IsTreeFault t why) is h)
read_so text content held (Err end.OutOfMemory) utf8 is only h = utf8

-- a tree is one request

one_selector : (text : List ℕ) (a b : Parts) → IsSelector text a → IsSelector text b → a ≡ b
one_selector text a b h k =
    let same = sym (selector_selected text a h) ∙ selector_selected text b k in
    cc same

one_put : (o : Option (Tree → Tree)) (a b : Tree → Tree) → o ≡ Some a → o ≡ Some b → a ≡ b
one_put o a b h k = cc

one_redaction : (t : Tree) (a b : ReplacementView) → IsRedaction t a → IsRedaction t b → a ≡ b
one_redaction t a b h k =
    let pairs = same_pairs t h.pairs k.pairs h.is k.is in
    let at = one_text _ h.selector.at k.selector.at (ap (λ ps. text_at (name_of At) ps) (sym pairs) ∙ h.selector.there) k.selector.there in
    let parts = one_selector k.selector.at a.parts b.parts (subst (λ text. IsSelector text a.parts) at h.selector.selects) k.selector.selects in
    let put = one_put _ a.put b.put (ap (λ ps. put_by (value_at Put ps) (value_at Sort ps)) (sym pairs) ∙ h.puts) k.puts in
    let made : Parts → (Tree → Tree) → ReplacementView = λ x y. record { parts = x; put = y } in
    ap (λ x. made x a.put) parts ∙ ap (made b.parts) put

each_one : (items : Trees) (rs ss : List ReplacementView) → AreRedactions items rs → AreRedactions items ss → rs ≡ ss
each_one no_trees [] [] h k = refl
each_one no_trees [] (s ∷ ss) h k = absurd k
each_one no_trees (r ∷ rs) ss h k = absurd h
each_one (tree t ts) [] ss h k = absurd h
each_one (tree t ts) (r ∷ rs) [] h k = absurd k
each_one (tree t ts) (r ∷ rs) (s ∷ ss) h k =
    ap (λ x. x ∷ rs) (one_redaction t r s h.0 k.0) ∙ ap (λ xs. s ∷ xs) (each_one ts rs ss h.1 k.1)

one_list : (o : Option Tree) (rs ss : List ReplacementView) → AreRedactionsAt o rs → AreRedactionsAt o ss → rs ≡ ss
one_list None rs ss h k = h ∙ sym k
one_list (Some value) rs ss h k =
    let same : h.items ≡ k.items = cc (h.is, k.is) in
    each_one k.items rs ss (subst (λ x. AreRedactions x rs) same h.each) k.each

one_some : {A : Type 0} (o : Option A) (a b : A) → o ≡ Some a → o ≡ Some b → a ≡ b
one_some o a b h k = cc

-- what stands at the keys of an assertion
record IsAssertionOf (pairs : TreePairs) (r : AssertionView) : Type 0 where
  module_name : text_at (name_of Module) pairs ≡ Some r.module_name
  file : text_at (name_of File) pairs ≡ Some r.file
  line : line_at (name_of Line) pairs ≡ Some r.line
  name : text_if (value_at Name pairs) ≡ Some r.name
  function : text_or_empty (value_at Function pairs) ≡ Some r.function
  suffix : text_or_empty (value_at Suffix pairs) ≡ Some r.suffix
  expr : text_at (name_of Expr) pairs ≡ Some r.expr
  value : value_at Value pairs ≡ Some r.value
  redactions : AreRedactionsAt (value_at Redactions pairs) r.redactions
  sort : sorted_by (value_at Sort pairs) ≡ Some r.sort

at_pairs : (t : Tree) (r : AssertionView) (qs : TreePairs) (h : IsAssertion t r) → h.pairs ≡ qs → IsAssertionOf qs r
at_pairs t r qs h same =
    let here : IsAssertionOf h.pairs r =
    record {
      module_name = h.module_name;
      file = h.file;
      line = h.line;
      name = h.name;
      function = h.function;
      suffix = h.suffix;
      expr = h.expr;
      value = h.value;
      redactions = h.redactions;
      sort = h.sort;
    } in
    subst (λ ps. IsAssertionOf ps r) same here

one_assertion : (t : Tree) (a b : AssertionView) → IsAssertion t a → IsAssertion t b → a ≡ b
one_assertion t a b h k =
    let pairs = same_pairs t h.pairs k.pairs h.is k.is in
    let there : IsAssertionOf k.pairs a = at_pairs t a k.pairs h pairs in
    let redactions = one_list (value_at Redactions k.pairs) a.redactions b.redactions there.redactions k.redactions in
    let made : List ℕ → List ℕ → ℕ → Option (List ℕ) → List ℕ → List ℕ → List ℕ → Tree → List ReplacementView → Bool → AssertionView =
    λ m f l n fn su e v rs s.
    record { module_name = m; file = f; line = l; name = n; function = fn; suffix = su; expr = e; value = v; redactions = rs; sort = s } in
    ap (λ x. made x a.file a.line a.name a.function a.suffix a.expr a.value a.redactions a.sort) (one_some _ _ _ there.module_name k.module_name)
    ∙ ap (λ x. made b.module_name x a.line a.name a.function a.suffix a.expr a.value a.redactions a.sort) (one_some _ _ _ there.file k.file)
    ∙ ap (λ x. made b.module_name b.file x a.name a.function a.suffix a.expr a.value a.redactions a.sort) (one_some _ _ _ there.line k.line)
    ∙ ap (λ x. made b.module_name b.file b.line x a.function a.suffix a.expr a.value a.redactions a.sort) (one_some _ _ _ there.name k.name)
    ∙ ap (λ x. made b.module_name b.file b.line b.name x a.suffix a.expr a.value a.redactions a.sort) (one_some _ _ _ there.function k.function)
    ∙ ap (λ x. made b.module_name b.file b.line b.name b.function x a.expr a.value a.redactions a.sort) (one_some _ _ _ there.suffix k.suffix)
    ∙ ap (λ x. made b.module_name b.file b.line b.name b.function b.suffix x a.value a.redactions a.sort) (one_some _ _ _ there.expr k.expr)
    ∙ ap (λ x. made b.module_name b.file b.line b.name b.function b.suffix b.expr x a.redactions a.sort) (one_some _ _ _ there.value k.value)
    ∙ ap (λ x. made b.module_name b.file b.line b.name b.function b.suffix b.expr b.value x a.sort) redactions
    ∙ ap (λ x. made b.module_name b.file b.line b.name b.function b.suffix b.expr b.value b.redactions x) (one_some _ _ _ there.sort k.sort)

-- an assertion is no block
not_both : (t : Tree) (r : AssertionView) (word : List ℕ) → IsAssertion t r → IsBlock t word → ⊥
not_both t r word h k =
    let pairs = same_pairs t h.pairs k.pairs h.is k.is in
    let clash = sym h.no_block ∙ ap asks_for_block pairs ∙ asks t word k in
    cc clash

-- a block has one word
one_word : (t : Tree) (a b : List ℕ) → IsBlock t a → IsBlock t b → a ≡ b
one_word t a b h k =
    let pairs = same_pairs t h.pairs k.pairs h.is k.is in
    one_some _ a b (ap (λ ps. text_at (name_of Duplicates) ps) (sym pairs) ∙ h.there) k.there

pub one_request : (t : Tree) (a b : RequestView) → IsRequest t a → IsRequest t b → a ≡ b
one_request t (asserts a) (asserts b) h k = ap asserts (one_assertion t a b h k)
one_request t (asserts a) begins h k = absurd (not_both t a _ h k)
one_request t (asserts a) ends h k = absurd (not_both t a _ h k)
one_request t begins (asserts b) h k = absurd (not_both t b _ k h)
one_request t begins begins h k = refl
one_request t begins ends h k = let clash = one_word t _ _ h k in absurd (cc clash)
one_request t ends (asserts b) h k = absurd (not_both t b _ k h)
one_request t ends begins h k = let clash = one_word t _ _ h k in absurd (cc clash)
one_request t ends ends h k = refl

-- a document that spells a request is read as that one
pub reads_as : (document : List ℕ) (r : RequestView) → Spells document r → ReadsAs document r
reads_as document r s = record {
  utf8 = s.utf8;
  tree = s.tree;
  read = λ t within text. one_tree (chars document) s.tree t s.within within s.text text;
  request_is = s.request_is;
}

-- a text of a tree is read only as the request that the tree is
pub text_read : (document : List ℕ) (r : RequestView) (t : Plain) → ReadsAs document r → IsWithin t → IsTextOf (chars document) t → IsRequest (content_of t) r
text_read document r t h within text = subst (λ p. IsRequest (content_of p) r) (h.read t within text) h.request_is

pub only_spelled : (document : List ℕ) (r other : RequestView) → Spells document r → ReadsAs document other → other ≡ r
only_spelled document r other s h = one_request (content_of s.tree) other r (text_read document other s.tree h s.within s.text) s.request_is
