-- A page has one answer to its words, where its header and the value read as trees.
use Rattle.snap_front.proofs.Prelude.{◌≡◌, ℕ, List, [], ◌∷◌, Some, sym, ap, ◌∙◌, subst, chars, front_read}
use Rattle.std.specs.Prelude.{encode_utf8_all}
use Rattle.snap_content.specs.Tree as t
use Rattle.snap_content.specs.Plain.{Plain, plain, content_of}
use Rattle.snap_print.specs.Blocks.{off}
use Rattle.snap_print.specs.Lines.{text_of}
use Rattle.snap_front.specs.Commands.{CommandView, sets, prints, ReplyView, done, given, printed}
use Rattle.snap_front.specs.Documents.{Docs}
use Rattle.snap_front.specs.Front.{IsCommand, IsText, Gives, ValueReads, IsAnswer}
use Rattle.snap_front.specs.Runs.{Comes, HeaderReads, AllRead}
use Rattle.snap_front.specs.Wanted.{Wanted, to_get, to_set, to_remove, to_format, wanted_in}
use Rattle.snap_front.proofs.Bodies.{one-text, one-comes}

one-command : (wanted : Wanted) (c d : CommandView) → ValueReads (Some wanted) → IsCommand wanted c → IsCommand wanted d → c ≡ d
one-command (to_get steps) c d reads h k = h ∙ sym k
one-command (to_set steps value) c d reads h k =
    h.2 ∙ ap (λ (p : Plain). sets [] steps (content_of p)) (sym (h.1.one reads.0 reads.1) ∙ k.1.one reads.0 reads.1) ∙ sym k.2
one-command (to_remove steps) c d reads h k = h ∙ sym k
one-command to_format c d reads h k = h ∙ sym k

puts-nothing : (wanted : Wanted) (c : CommandView) → IsCommand wanted c → AllRead (c ∷ [])
puts-nothing (to_get steps) c h = subst (λ (x : CommandView). AllRead (x ∷ [])) (sym h) tt
puts-nothing (to_set steps value) c h = subst (λ (x : CommandView). AllRead (x ∷ [])) (sym h.2) tt
puts-nothing (to_remove steps) c h = subst (λ (x : CommandView). AllRead (x ∷ [])) (sym h) tt
puts-nothing to_format c h = subst (λ (x : CommandView). AllRead (x ∷ [])) (sym h) tt

one-got : (reply : ReplyView) (p q : t.Tree) (a b : List ℕ) → reply ≡ given p → reply ≡ given q → a ≡ text_of off (plain p) → b ≡ text_of off (plain q) → a ≡ b
one-got reply p q a b h k is other =
    let both : given p ≡ given q = sym h ∙ k in
    let same : p ≡ q = cc in
    is ∙ ap (λ (x : t.Tree). text_of off (plain x)) same ∙ sym other

one-printed : (docs : Docs) (a b : List ℕ) → Comes docs (prints []) (docs, printed a) → Comes docs (prints []) (docs, printed b) → a ≡ b
one-printed docs a b h k = let both : printed a ≡ printed b = ap (λ (x : Docs × ReplyView). x.1) (h ∙ sym k) in cc

one-shown : (wanted : Wanted) (docs : Docs) (reply : ReplyView) (a b : List ℕ) → IsText wanted docs reply a → IsText wanted docs reply b → a ≡ b
one-shown (to_get steps) docs reply a b h k = one-got reply h.0 k.0 a b h.1 k.1 h.2 k.2
one-shown (to_set steps value) docs reply a b h k = one-printed docs a b h.1 k.1
one-shown (to_remove steps) docs reply a b h k = one-printed docs a b h.1 k.1
one-shown to_format docs reply a b h k = one-printed docs a b h.1 k.1

one-given : (wanted : Wanted) (words a b : List ℕ) → HeaderReads (front_read words) → ValueReads (Some wanted) → Gives wanted words a → Gives wanted words b → a ≡ b
one-given wanted words a b reads value x y =
    let before : x.before ≡ y.before = ap (λ (r : Docs × ReplyView). r.0) (one-text [] [] (front_read words) (x.before, done) (y.before, done) reads x.put y.put) in
    let command : x.command ≡ y.command = one-command wanted x.command y.command value x.is y.is in
    let ran : Comes y.before y.command (x.docs, x.reply)
    = subst (λ (d : Docs). Comes d y.command (x.docs, x.reply)) before (subst (λ (c : CommandView). Comes x.before c (x.docs, x.reply)) command x.ran) in
    let after : (x.docs, x.reply) ≡ (y.docs, y.reply) = one-comes y.before y.command [] (x.docs, x.reply) (y.docs, y.reply) (puts-nothing wanted y.command y.is) ran y.ran in
    one-shown wanted y.docs y.reply a b
    (subst (λ (r : Docs × ReplyView). IsText wanted r.0 r.1 a) after x.answer) y.answer

same-wanted : (a b : Wanted) → Some a ≡ Some b → a ≡ b
same-wanted a b e = cc

pub one-answer : (words : List (List ℕ)) (document a b : List ℕ) → HeaderReads (front_read (chars document)) → ValueReads (wanted_in words) → IsAnswer words document a → IsAnswer words document b → a ≡ b
one-answer words document a b reads value x y =
    let wanted : x.wanted ≡ y.wanted = same-wanted x.wanted y.wanted (sym x.asked ∙ y.asked) in
    let texts : x.text ≡ y.text
    = one-given y.wanted (chars document) x.text y.text reads (subst ValueReads y.asked value)
    (subst (λ (w : Wanted). Gives w (chars document) x.text) wanted x.gives) y.gives in
    x.bytes ∙ ap encode_utf8_all texts ∙ sym y.bytes
