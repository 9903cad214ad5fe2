-- Bodies stay until another document is put under their name; and one run is all that commands allow.
use Rattle.std.proofs.lemmas.Slice.Eq.{bytes_eq-Decides}
use Rattle.snap_front.proofs.Prelude.{◌≡◌, ℕ, Bool, true, false, cond, List, [], ◌∷◌, Option, None, Some, option_map, refl, sym, ap, ◌∙◌, subst, bytes_eq, front_read, get_tree}
use Rattle.std.specs.Prelude.{◌&&◌}
use Rattle.snap_content.specs.Plain.{Plain, null, bool, int, text, list, dict, plain, content_of}
use Rattle.snap_content.specs.Tree as t
use Rattle.snap_front.specs.Commands.{CommandView, puts, gets, sets, removes, prints, ReplyView, printed}
use Rattle.snap_front.specs.Documents.{Document, Docs, document_in, with_document}
use Rattle.snap_front.specs.Heads.{Changed, found, set_head, remove_head, printed_of}
use Rattle.snap_front.specs.Reading.{ReadsAs}
use Rattle.snap_front.specs.Runs.{put_tree, PutEnd, PutText, told_of, changed_by, changed_of, Comes, Runs, body_in, is_done, puts_there, NonePut, HeaderReads, AllRead}
use Rattle.snap_front.specs.Runs.PutEnd.{taken, refused}

same_name : (name : List ℕ) → bytes_eq name name ≡ true
same_name name = (bytes_eq-Decides name name).1 refl

-- what is under a name after a document is put under it
pub there_now : (name : List ℕ) (new : Document) (docs : Docs) → document_in name (with_document name new docs) ≡ Some new
there_now name new [] = ap (λ b. cond b (Some new) None) (same_name name)
there_now name new (d ∷ ds) = by (bytes_eq d.0 name) refl (there_now name new ds)
  where
    by : (b : Bool) → bytes_eq d.0 name ≡ b → document_in name (with_document name new ds) ≡ Some new
        → document_in name (cond b ((d.0, new) ∷ ds) (d ∷ with_document name new ds)) ≡ Some new
    by true e later = ap (λ b. cond b (Some new) (document_in name ds)) e
    by false e later = ap (λ b. cond b (Some d.1) (document_in name (with_document name new ds))) e ∙ later

-- and under another one
pub there_still : (name other : List ℕ) (new : Document) (docs : Docs) → bytes_eq other name ≡ false → document_in name (with_document other new docs) ≡ document_in name docs
there_still name other new [] apart = ap (λ b. cond b (Some new) None) apart
there_still name other new (d ∷ ds) apart = by (bytes_eq d.0 other) refl (there_still name other new ds apart)
  where
    by : (b : Bool) → bytes_eq d.0 other ≡ b → document_in name (with_document other new ds) ≡ document_in name ds
        → document_in name (cond b ((d.0, new) ∷ ds) (d ∷ with_document other new ds)) ≡ document_in name (d ∷ ds)
    by true e later =
        let differs : bytes_eq d.0 name ≡ false = ap (λ x. bytes_eq x name) ((bytes_eq-Decides d.0 other).0 e) ∙ apart in
        ap (λ b. cond b (Some new) (document_in name ds)) differs ∙ sym (ap (λ b. cond b (Some d.1) (document_in name ds)) differs)
    by false e later = ap (cond (bytes_eq d.0 name) (Some d.1)) later

body_of : Option Document → Option (List ℕ)
body_of o = option_map (λ (d : Document). d.body) o

-- another head keeps the body
other_head : (name other : List ℕ) (head : t.Tree) (d : Document) (docs : Docs) → document_in other docs ≡ Some d
    → body_in name (with_document other (record { head = head; body = d.body }) docs) ≡ body_in name docs
other_head name other head d docs is = by (bytes_eq other name) refl
  where
    new : Document
    new = record { head = head; body = d.body }

    by : (b : Bool) → bytes_eq other name ≡ b → body_in name (with_document other new docs) ≡ body_in name docs
    by true e =
        let one : other ≡ name = (bytes_eq-Decides other name).0 e in
        ap (λ n. option_map (λ (x : Document). x.body) (document_in name (with_document n new docs))) one
        ∙ ap (option_map (λ (x : Document). x.body)) (there_now name new docs)
        ∙ sym (ap (λ n. option_map (λ (x : Document). x.body) (document_in n docs)) (sym one) ∙ ap (option_map (λ (x : Document). x.body)) is)
    by false e = ap (option_map (λ (x : Document). x.body)) (there_still name other new docs e)

pub told-docs : (tell : Document → ReplyView) (docs : Docs) (o : Option Document) → (told_of tell docs o).0 ≡ docs
told-docs tell docs None = refl
told-docs tell docs (Some d) = refl

changed-body : (name other : List ℕ) (docs : Docs) (d : Document) (c : Changed) → document_in other docs ≡ Some d → body_in name (changed_by docs other d c).0 ≡ body_in name docs
changed-body name other docs d (None, r) is = refl
changed-body name other docs d (Some new, r) is = other_head name other new d docs is

changed-of-body : (change : Document → Changed) (name other : List ℕ) (docs : Docs) (o : Option Document) → document_in other docs ≡ o → body_in name (changed_of change other docs o).0 ≡ body_in name docs
changed-of-body change name other docs None is = refl
changed-of-body change name other docs (Some d) is = changed-body name other docs d (change d) is

put-body : (name other body : List ℕ) (docs : Docs) (p : Plain) → (bytes_eq other name && is_done (put_tree docs other body p).1) ≡ false → body_in name (put_tree docs other body p).0 ≡ body_in name docs
put-body name other body docs (dict es) apart = by (bytes_eq other name) refl apart
  where
    new : Document
    new = record { head = content_of (dict es); body = body }

    by : (b : Bool) → bytes_eq other name ≡ b → (b && true) ≡ false → body_in name (with_document other new docs) ≡ body_in name docs
    by true e never = absurd (cc)
    by false e never = ap (option_map (λ (x : Document). x.body)) (there_still name other new docs e)
put-body name other body docs null apart = refl
put-body name other body docs (bool b) apart = refl
put-body name other body docs (int z) apart = refl
put-body name other body docs (text s) apart = refl
put-body name other body docs (list ps) apart = refl

put-end-body : (name other header body : List ℕ) (docs mid : Docs) (r : ReplyView) → PutEnd docs other header body (mid, r) → (bytes_eq other name && is_done r) ≡ false → body_in name mid ≡ body_in name docs
put-end-body name other header body docs mid r (taken p may is) apart =
    ap (λ (x : Docs × ReplyView). body_in name x.0) is ∙ put-body name other body docs p (sym (ap (λ (x : Docs × ReplyView). bytes_eq other name && is_done x.1) is) ∙ apart)
put-end-body name other header body docs mid r (refused none is) apart = ap (λ (x : Docs × ReplyView). body_in name x.0) is

put-text-body : (name other : List ℕ) (docs mid : Docs) (r : ReplyView) (o : Option (List ℕ × List ℕ)) → PutText docs other o (mid, r) → (bytes_eq other name && is_done r) ≡ false → body_in name mid ≡ body_in name docs
put-text-body name other docs mid r None is apart = ap (λ (x : Docs × ReplyView). body_in name x.0) is
put-text-body name other docs mid r (Some parts) h apart = put-end-body name other parts.0 parts.1 docs mid r h apart

one-body : (name : List ℕ) (docs mid : Docs) (c : CommandView) (r : ReplyView) → Comes docs c (mid, r) → puts_there name c r ≡ false → body_in name mid ≡ body_in name docs
one-body name docs mid (puts other words) r h apart = put-text-body name other docs mid r (front_read words) h apart
one-body name docs mid (gets other path) r is apart = ap (λ (x : Docs × ReplyView). body_in name x.0) is ∙ ap (body_in name) (told-docs (λ d. found (get_tree path d.head)) docs (document_in other docs))
one-body name docs mid (sets other path v) r is apart =
    ap (λ (x : Docs × ReplyView). body_in name x.0) is ∙ changed-of-body (λ d. set_head path (content_of (plain v)) d.head) name other docs (document_in other docs) refl
one-body name docs mid (removes other path) r is apart =
    ap (λ (x : Docs × ReplyView). body_in name x.0) is ∙ changed-of-body (λ d. remove_head path d.head) name other docs (document_in other docs) refl
one-body name docs mid (prints other) r is apart = ap (λ (x : Docs × ReplyView). body_in name x.0) is ∙ ap (body_in name) (told-docs (λ d. printed (printed_of d.head d.body)) docs (document_in other docs))

pub bodies-stay : (docs docs' : Docs) (cs : List CommandView) (rs : List ReplyView) (name : List ℕ) → Runs docs cs docs' rs → NonePut name cs rs → body_in name docs' ≡ body_in name docs
bodies-stay docs docs' [] [] name run none_put = ap (body_in name) run
bodies-stay docs docs' [] (r ∷ rs) name run none_put = absurd run
bodies-stay docs docs' (c ∷ cs) [] name run none_put = absurd run
bodies-stay docs docs' (c ∷ cs) (r ∷ rs) name run none_put =
    bodies-stay run.0 docs' cs rs name run.2 none_put.1 ∙ one-body name docs run.0 c r run.1 none_put.0

-- what a command comes to is one, where a header that it puts reads as a tree
one-put : (docs : Docs) (name header body : List ℕ) (x y : Docs × ReplyView) (t : Plain) → ReadsAs header t → PutEnd docs name header body x → PutEnd docs name header body y → x ≡ y
one-put docs name header body x y t reads (taken p may is) (taken q may' is') =
    is ∙ ap (put_tree docs name body) (sym (may.one t reads) ∙ may'.one t reads) ∙ sym is'
one-put docs name header body x y t reads (taken p may is) (refused none is') = absurd (none t reads)
one-put docs name header body x y t reads (refused none is) k = absurd (none t reads)

pub one-text : (docs : Docs) (name : List ℕ) (o : Option (List ℕ × List ℕ)) (x y : Docs × ReplyView) → HeaderReads o → PutText docs name o x → PutText docs name o y → x ≡ y
one-text docs name None x y reads h k = h ∙ sym k
one-text docs name (Some parts) x y reads h k = one-put docs name parts.0 parts.1 x y reads.0 reads.1 h k

first-read : (c : CommandView) (cs : List CommandView) → AllRead (c ∷ cs) → AllRead cs
first-read (puts name words) cs h = h.1
first-read (gets name path) cs h = h
first-read (sets name path v) cs h = h
first-read (removes name path) cs h = h
first-read (prints name) cs h = h

pub one-comes : (docs : Docs) (c : CommandView) (cs : List CommandView) (x y : Docs × ReplyView) → AllRead (c ∷ cs) → Comes docs c x → Comes docs c y → x ≡ y
one-comes docs (puts name words) cs x y reads h k = one-text docs name (front_read words) x y reads.0 h k
one-comes docs (gets name path) cs x y reads h k = h ∙ sym k
one-comes docs (sets name path v) cs x y reads h k = h ∙ sym k
one-comes docs (removes name path) cs x y reads h k = h ∙ sym k
one-comes docs (prints name) cs x y reads h k = h ∙ sym k

pub one-run : (docs a b : Docs) (cs : List CommandView) (rs ss : List ReplyView) → AllRead cs → Runs docs cs a rs → Runs docs cs b ss → (a ≡ b) × (rs ≡ ss)
one-run docs a b [] [] [] reads h k = (h ∙ sym k, refl)
one-run docs a b [] [] (s ∷ ss) reads h k = absurd k
one-run docs a b [] (r ∷ rs) ss reads h k = absurd h
one-run docs a b (c ∷ cs) [] ss reads h k = absurd h
one-run docs a b (c ∷ cs) (r ∷ rs) [] reads h k = absurd k
one-run docs a b (c ∷ cs) (r ∷ rs) (s ∷ ss) reads h k =
    let same = one-comes docs c cs (h.0, r) (k.0, s) reads h.1 k.1 in
    let mid : h.0 ≡ k.0 = ap (λ (x : Docs × ReplyView). x.0) same in
    let first : r ≡ s = ap (λ (x : Docs × ReplyView). x.1) same in
    let rest = one-run k.0 a b cs rs ss (first-read c cs reads) (subst (λ m. Runs m cs a rs) mid h.2) k.2 in
    (rest.0, ap (λ x. x ∷ rs) first ∙ ap (λ xs. s ∷ xs) rest.1)
