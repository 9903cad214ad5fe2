-- One document put, and one command on it.
use Rattle.snap_front.proofs.Prelude.{◌≡◌, ℕ, Bool, true, false, cond, ◌⊎◌, List, [], ◌∷◌, Option, None, Some, option_map, refl, sym, ap, ◌∙◌, subst, front_read, get_tree, set_tree, remove_tree, steps_of, Step, Content, tree}
use Rattle.std.specs.Prelude.{◌&&◌, not, Result, Ok, Err, IfOk, IfErr, unwrap_or}
use Rattle.std.specs.Str.{IsUtf8, chars}
use Rattle.snap_content.specs.Tree as t
use Rattle.snap_content.specs.Plain.{plain, content_of}
use Rattle.snap_content.proofs.PlainMade.{plain_made}
use Rattle.snap_front.specs.Commands.{CommandView, puts, gets, sets, removes, prints, ReplyView, done, given, printed, not_map, root, reply_of, refusal_of}
use Rattle.snap_front.specs.Documents.{Document, Docs}
use Rattle.snap_front.specs.Kept.{body_of, IsPrintOf}
use Rattle.snap_front.specs.Front.{AreBytesOf, HasNoAnswer, IsAnswer, IsCommand, is_refusal, IsText, KeepsBody, Gives, Refuses, IsTextAnswer, IsPrinted, IsGot, IsFormatted, HasHead, IsDone}
use Rattle.snap_front.specs.Front.Refuses.{at_command}
use Rattle.snap_front.specs.Heads.{Changed, IsChanged, IsNoTree, IsNoMap, found, is_empty_path, is_map, set_or_refused, set_head, removed_or_refused, remove_head}
use Rattle.snap_front.specs.Reading.{IsReadOf}
use Rattle.snap_front.specs.Runs.{Comes, changed_by}
use Rattle.snap_front.specs.Wanted.{Wanted, to_get, to_set, to_remove, to_format, value_text, wanted_in, IsRequest}
use Rattle.snap_front.specs.declared.front_error.FrontError.{FrontError}
use Rattle.snap_front.specs.declared.front_error.FrontError.TheVariants as e
use Rattle.snap_front.specs.declared.refusal.Refusal.{Refusal}
use Rattle.snap_front.specs.declared.refusal.Refusal.TheVariants as u
use Rattle.snap_front.specs.declared.reply.Reply.{Reply}
use Rattle.snap_front.specs.declared.words.Request.{Request}
use Rattle.snap_front.specs.declared.words.Request.TheVariants as q
use Rattle.snap_front.proofs.Maps.{set-head-map, remove-head-map}
use Rattle.snap_front.proofs.Putting.{put-done, put-refused}

-- the one document
abbrev alone : t.Tree → List ℕ → Docs
alone head body = ([], record { head = head; body = body }) ∷ []

abbrev the_document : t.Tree → List ℕ → Document
the_document head body = record { head = head; body = body }

its-body : (text : List ℕ) (head : t.Tree) (body : List ℕ) → HasHead text head body → body_of text ≡ Some body
its-body text head body h = ap (option_map (λ (parts : List ℕ × List ℕ). parts.1)) h.read

put_alone : (text : List ℕ) (head : t.Tree) (body : List ℕ) → HasHead text head body → Comes [] (puts [] text) (alone head body, done)
put_alone text head body h = put-done [] (alone head body) [] text h.header body head done h.entries (sym h.read) refl h.is h.may refl

changed-new : (head : t.Tree) (body : List ℕ) (c : Changed) (new : t.Tree) → c.0 ≡ Some new → (alone new body, c.1) ≡ changed_by (alone head body) [] (the_document head body) c
changed-new head body (None, r) new e = absurd (cc)
changed-new head body (Some n, r) new e = let same : new ≡ n = cc in ap (λ (x : t.Tree). (alone x body, r)) same

changed-none : (head : t.Tree) (body : List ℕ) (c : Changed) (r : ReplyView) → c ≡ (None, r) → (alone head body, r) ≡ changed_by (alone head body) [] (the_document head body) c
changed-none head body c r e = sym (ap (changed_by (alone head body) [] (the_document head body)) e)

-- a command that changes the head
changed-answer : (wanted : Wanted) (text : List ℕ) (head : t.Tree) (body : List ℕ) (command : CommandView) (c : Changed) (result : Result (List ℕ) FrontError) → HasHead text head body → IsCommand wanted command
    → ((x : Docs × ReplyView) → x ≡ changed_by (alone head body) [] (the_document head body) c → Comes (alone head body) command x)
    → ((docs : Docs) (r : ReplyView) (out : List ℕ) → is_refusal r ≡ false → Comes docs (prints []) (docs, printed out) → IsText wanted docs r out)
    → ((new : t.Tree) (out : List ℕ) → body_of text ≡ Some body → IsPrintOf new body out → KeepsBody wanted text out)
    → IsPrinted c body result → IsTextAnswer wanted text result
changed-answer wanted text head body command c (Ok out) h is comes shows keeps p = record {
  command = command;
  is = is;
  before = alone head body;
  put = put_alone text head body h;
  docs = alone p.0 body;
  reply = c.1;
  ran = comes (alone p.0 body, c.1) (changed-new head body c p.0 p.1);
  answer = shows (alone p.0 body) c.1 out p.2 (ap (λ (x : List ℕ). (alone p.0 body, printed x)) p.3.is);
  keeps = keeps p.0 out (its-body text head body h) p.3;
}
changed-answer wanted text head body command c (Err e.BadWords) h is comes shows keeps p = absurd p
changed-answer wanted text head body command c (Err e.NotText) h is comes shows keeps p = absurd p
changed-answer wanted text head body command c (Err (e.Refused reply)) h is comes shows keeps p =
    at_command command (alone head body) is (put_alone text head body h) (comes (alone head body, reply_of reply) (changed-none head body c (reply_of reply) p.0)) p.1
changed-answer wanted text head body command c (Err e.OutOfMemory) h is comes shows keeps p = tt

got-answer : (text : List ℕ) (head : t.Tree) (body : List ℕ) (steps : List Step) (result : Result (List ℕ) FrontError) → HasHead text head body → IsGot (get_tree steps head) result → IsTextAnswer (to_get steps) text result
got-answer text head body steps (Ok out) h g = record {
  command = gets [] steps;
  is = refl;
  before = alone head body;
  put = put_alone text head body h;
  docs = alone head body;
  reply = given g.0;
  ran = ap (λ (o : Option t.Tree). (alone head body, found o)) (sym g.1);
  answer = (g.0, refl, g.2);
  keeps = tt;
}
got-answer text head body steps (Err e.BadWords) h g = absurd g
got-answer text head body steps (Err e.NotText) h g = absurd g
got-answer text head body steps (Err (e.Refused reply)) h g =
    at_command (gets [] steps) (alone head body) refl (put_alone text head body h)
    (ap (λ (r : ReplyView). (alone head body, r)) g.1 ∙ ap (λ (o : Option t.Tree). (alone head body, found o)) (sym g.0)) (ap is_refusal g.1)
got-answer text head body steps (Err e.OutOfMemory) h g = tt

formatted-answer : (text : List ℕ) (head : t.Tree) (body : List ℕ) (result : Result (List ℕ) FrontError) → HasHead text head body → IsFormatted head body result → IsTextAnswer to_format text result
formatted-answer text head body (Ok out) h f =
    let prints_it : Comes (alone head body) (prints []) (alone head body, printed out) = ap (λ (x : List ℕ). (alone head body, printed x)) f.is in
    record {
      command = prints [];
      is = refl;
      before = alone head body;
      put = put_alone text head body h;
      docs = alone head body;
      reply = printed out;
      ran = prints_it;
      answer = (refl, prints_it);
      keeps = (head, body, its-body text head body h, f);
    }
formatted-answer text head body (Err e.BadWords) h f = absurd f
formatted-answer text head body (Err e.NotText) h f = absurd f
formatted-answer text head body (Err (e.Refused reply)) h f = absurd f
formatted-answer text head body (Err e.OutOfMemory) h f = tt

set-answer : (text : List ℕ) (head : t.Tree) (body : List ℕ) (steps : List Step) (value : List ℕ) (made : Content) (result : Result (List ℕ) FrontError) → HasHead text head body → IsReadOf (value_text value) (Some made)
    → IsPrinted (set_head steps (tree made) head) body result → IsTextAnswer (to_set steps value) text result
set-answer text head body steps value made result h read p =
    let same : tree made ≡ content_of (plain (content_of read.0)) = read.1 ∙ ap content_of (sym (plain_made read.0)) in
    changed-answer (to_set steps value) text head body (sets [] steps (content_of read.0)) (set_head steps (tree made) head) result h (read.0, read.2, refl)
    (λ x is. is ∙ ap (λ (v : t.Tree). changed_by (alone head body) [] (the_document head body) (set_head steps v head)) same)
    (λ docs r out fine shown. (fine, shown)) (λ new out is_body f. (new, body, is_body, f)) p

removed-answer : (text : List ℕ) (head : t.Tree) (body : List ℕ) (steps : List Step) (result : Result (List ℕ) FrontError) → HasHead text head body
    → IsPrinted (remove_head steps head) body result → IsTextAnswer (to_remove steps) text result
removed-answer text head body steps result h p =
    changed-answer (to_remove steps) text head body (removes [] steps) (remove_head steps head) result h refl (λ x is. is) (λ docs r out fine shown. (fine, shown))
    (λ new out is_body f. (new, body, is_body, f)) p

same_wanted : (a b : Wanted) → Some a ≡ Some b → a ≡ b
same_wanted a b e = cc

pub done-answer : (wanted : Wanted) (text : List ℕ) (head : t.Tree) (body : List ℕ) (request : Request) (result : Result (List ℕ) FrontError) → IsRequest (Some wanted) (Some request) → HasHead text head body
    → IsDone request head body result → IsTextAnswer wanted text result
done-answer wanted text head body (q.Get path) result is h d =
    subst (λ w. IsTextAnswer w text result) (sym (same_wanted wanted (to_get (steps_of path)) is)) (got-answer text head body (steps_of path) result h d)
done-answer wanted text head body (q.Set path made) result is h d =
    subst (λ w. IsTextAnswer w text result) (sym (same_wanted wanted (to_set (steps_of path) is.0) is.1)) (set-answer text head body (steps_of path) is.0 made result h is.2 d)
done-answer wanted text head body (q.Remove path) result is h d =
    subst (λ w. IsTextAnswer w text result) (sym (same_wanted wanted (to_remove (steps_of path)) is)) (removed-answer text head body (steps_of path) result h d)
done-answer wanted text head body q.Format result is h d =
    subst (λ w. IsTextAnswer w text result) (sym (same_wanted wanted to_format is)) (formatted-answer text head body result h d)

refuses : (why : Refusal) → is_refusal (refusal_of why) ≡ true
refuses u.NotFront = refl
refuses u.BadHeader = refl
refuses u.NotMap = refl
refuses u.Absent = refl
refuses u.NoParent = refl
refuses u.Root = refl
refuses u.NoName = refl

-- the head of a text is a map
pub head-map : (text : List ℕ) (head : t.Tree) (body : List ℕ) → HasHead text head body → is_map head ≡ true
head-map text head body h = ap is_map h.is

-- an error that tells a refusal
abbrev pub Tells : FrontError → Refusal → Type 0
Tells error why = (reply : Reply) × (error ≡ e.Refused reply) × (reply_of reply ≡ refusal_of why)

tells_refusal : (reply : Reply) (why : Refusal) → reply_of reply ≡ refusal_of why → is_refusal (reply_of reply) ≡ true
tells_refusal reply why is = ap is_refusal is ∙ refuses why

-- a text that is refused as a document
pub refused-head : (text header body : List ℕ) (why : Refusal) (error : FrontError) → Some (header, body) ≡ front_read text → IsNoTree header why ⊎ IsNoMap header why → Tells error why
    → Comes [] (puts [] text) ([], refusal_of why)
refused-head text header body why error read h told = put-refused [] [] text header body why (refusal_of why) read refl h

pub told-head : (End : FrontError → Type 0) (text : List ℕ) (why : Refusal) (error : FrontError) → Comes [] (puts [] text) ([], refusal_of why) → Tells error why
    → ((reply : Reply) → Comes [] (puts [] text) ([], reply_of reply) × (is_refusal (reply_of reply) ≡ true) → End (e.Refused reply)) → End error
told-head End text why error comes told make =
    subst End (sym told.1) (make told.0 (subst (λ r. Comes [] (puts [] text) ([], r)) (sym told.2) comes, tells_refusal told.0 why told.2))

-- a head that was set
set-done : (b : Bool) (o : Option t.Tree) (v head new : t.Tree) → done ≡ (cond b (None, not_map) (set_or_refused o)).1 → new ≡ unwrap_or (cond b (None, not_map) (set_or_refused o)).0 head → (cond b (None, not_map) (set_or_refused o)).0 ≡ Some new
set-done true o v head new r h = absurd (cc)
set-done false None v head new r h = absurd (cc)
set-done false (Some n) v head new r h = ap Some (sym h)

not-done : (why : Refusal) → refusal_of why ≡ done → ⊥
not-done u.NotFront h = cc
not-done u.BadHeader h = cc
not-done u.NotMap h = cc
not-done u.Absent h = cc
not-done u.NoParent h = cc
not-done u.Root h = cc
not-done u.NoName h = cc

set-none : (b : Bool) (o : Option t.Tree) (why : Refusal) → refusal_of why ≡ (cond b (None, not_map) (set_or_refused o)).1 → (cond b (None, not_map) (set_or_refused o)).0 ≡ None
set-none true o why r = refl
set-none false None why r = refl
set-none false (Some n) why r = absurd (not-done why r)

pub printed-new : (c : Changed) (new : t.Tree) (body : List ℕ) (result : Result (List ℕ) FrontError) → c.0 ≡ Some new → is_refusal c.1 ≡ false → IsFormatted new body result → IsPrinted c body result
printed-new c new body (Ok out) is fine f = (new, is, fine, f)
printed-new c new body (Err e.BadWords) is fine f = absurd f
printed-new c new body (Err e.NotText) is fine f = absurd f
printed-new c new body (Err (e.Refused reply)) is fine f = absurd f
printed-new c new body (Err e.OutOfMemory) is fine f = tt

pub printed-set : (steps : List Step) (v head new : t.Tree) (body : List ℕ) (result : Result (List ℕ) FrontError) → is_map head ≡ true → IsChanged (set_head steps v head) head new done
    → (is_map new ≡ true → IsFormatted new body result) → IsPrinted (set_head steps v head) body result
printed-set steps v head new body result m h f =
    let is : (set_head steps v head).0 ≡ Some new = set-done (is_empty_path steps && not (is_map v)) (set_tree steps v head) v head new h.reply_is h.head in
    printed-new (set_head steps v head) new body result is (ap is_refusal (sym h.reply_is)) (f (set-head-map steps v head new m is))

-- a head from which something was removed
removed-some : (r : ReplyView) (o : Option t.Tree) (head new part : t.Tree) → given part ≡ (removed_or_refused r o).1 → new ≡ unwrap_or (removed_or_refused r o).0 head → (removed_or_refused r o).0 ≡ Some new
removed-some r None head new part is h = absurd (cc)
removed-some r (Some x) head new part is h = ap Some (sym h)

removed-done : (steps : List Step) (head new part : t.Tree) → IsChanged (remove_head steps head) head new (given part) → (remove_head steps head).0 ≡ Some new
removed-done [] head new part h = let no : given part ≡ root = h.reply_is in absurd (cc)
removed-done (s ∷ ss) head new part h = removed-some (found (get_tree (s ∷ ss) head)) (remove_tree (s ∷ ss) head) head new part h.reply_is h.head

pub printed-removed : (steps : List Step) (head new part : t.Tree) (body : List ℕ) (result : Result (List ℕ) FrontError) → is_map head ≡ true → IsChanged (remove_head steps head) head new (given part)
    → (is_map new ≡ true → IsFormatted new body result) → IsPrinted (remove_head steps head) body result
printed-removed steps head new part body result m h f =
    let is : (remove_head steps head).0 ≡ Some new = removed-done steps head new part h in
    printed-new (remove_head steps head) new body result is (ap is_refusal (sym h.reply_is)) (f (remove-head-map steps head new m is))

refused-pair : (c : Changed) (r : ReplyView) → c.0 ≡ None → r ≡ c.1 → c ≡ (None, r)
refused-pair (o, a) r none is = ap (λ (x : Option t.Tree). (x, a)) none ∙ ap (λ (x : ReplyView). (None, x)) (sym is)

pub printed-refused : (c : Changed) (head new : t.Tree) (body : List ℕ) (why : Refusal) (error : FrontError) → IsChanged c head new (refusal_of why) → c.0 ≡ None → Tells error why → IsPrinted c body (Err error)
printed-refused c head new body why error h none told =
    subst (λ x. IsPrinted c body (Err x)) (sym told.1)
    (refused-pair c (reply_of told.0) none (told.2 ∙ h.reply_is), tells_refusal told.0 why told.2)

pub set-refused : (steps : List Step) (v head new : t.Tree) (body : List ℕ) (why : Refusal) (error : FrontError) → IsChanged (set_head steps v head) head new (refusal_of why) → Tells error why
    → IsPrinted (set_head steps v head) body (Err error)
set-refused steps v head new body why error h told =
    printed-refused (set_head steps v head) head new body why error h (set-none (is_empty_path steps && not (is_map v)) (set_tree steps v head) why h.reply_is) told

-- the bytes of an answer
pub bytes-answer : (words : List (List ℕ)) (document text : List ℕ) (wanted : Wanted) (answer bytes : Result (List ℕ) FrontError) → wanted_in words ≡ Some wanted → IsUtf8 document → text ≡ chars document
    → IsTextAnswer wanted text answer → AreBytesOf answer bytes → IfOk bytes (λ out. IsAnswer words document out)
bytes-answer words document text wanted (Ok out) (Ok bytes) asked utf8 same told are =
    record { wanted = wanted; asked = asked; utf8 = utf8; text = out; gives = subst (λ (x : List ℕ). Gives wanted x out) same told; bytes = are }
bytes-answer words document text wanted (Ok out) (Err error) asked utf8 same told are = tt
bytes-answer words document text wanted (Err why) (Ok bytes) asked utf8 same told are = absurd are
bytes-answer words document text wanted (Err why) (Err error) asked utf8 same told are = tt

no-answer : (words : List (List ℕ)) (document text : List ℕ) (wanted : Wanted) (why : FrontError) → wanted_in words ≡ Some wanted → IsUtf8 document → text ≡ chars document → IsTextAnswer wanted text (Err why) → HasNoAnswer words document why
no-answer words document text wanted e.BadWords asked utf8 same told = absurd told
no-answer words document text wanted e.NotText asked utf8 same told = absurd told
no-answer words document text wanted (e.Refused reply) asked utf8 same told =
    record { wanted = wanted; asked = asked; utf8 = utf8; refuses = subst (λ (x : List ℕ). Refuses wanted x (reply_of reply)) same told }
no-answer words document text wanted e.OutOfMemory asked utf8 same told = tt

pub bytes-refusal : (words : List (List ℕ)) (document text : List ℕ) (wanted : Wanted) (answer bytes : Result (List ℕ) FrontError) → wanted_in words ≡ Some wanted → IsUtf8 document → text ≡ chars document
    → IsTextAnswer wanted text answer → AreBytesOf answer bytes → IfErr bytes (λ why. HasNoAnswer words document why)
bytes-refusal words document text wanted (Ok out) (Ok bytes) asked utf8 same told are = tt
bytes-refusal words document text wanted (Ok out) (Err error) asked utf8 same told are = subst (HasNoAnswer words document) (sym are) tt
bytes-refusal words document text wanted (Err why) (Ok bytes) asked utf8 same told are = absurd are
bytes-refusal words document text wanted (Err why) (Err error) asked utf8 same told are = subst (HasNoAnswer words document) (sym are) (no-answer words document text wanted why asked utf8 same told)

-- a request is of something that is wanted
pub wanted-of : (w : Option Wanted) (request : Request) → IsRequest w (Some request) → (wanted : Wanted) × (w ≡ Some wanted)
wanted-of w (q.Get path) is = (to_get (steps_of path), is)
wanted-of w (q.Set path made) is = (to_set (steps_of path) is.0, is.1)
wanted-of w (q.Remove path) is = (to_remove (steps_of path), is)
wanted-of w q.Format is = (to_format, is)
