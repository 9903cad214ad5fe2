-- The body of the last text that was put; and printed documents, put again.
use Rattle.snap_front.proofs.Prelude.{◌≡◌, ℕ, List, [], ◌∷◌, ◌++◌, Option, None, Some, option_map, sym, ap, ◌∙◌, subst, arith, length, front_read}
use Rattle.snap_content.specs.Plain.{Plain, null, bool, int, text, list, dict, content_of}
use Rattle.snap_front.specs.Commands.{CommandView, puts, ReplyView, done, not_front, bad_header}
use Rattle.snap_front.specs.Documents.{Document, Docs}
use Rattle.snap_front.specs.Kept.{body_of, IsLastPut, IsAgain, AreAgain}
use Rattle.snap_front.specs.Runs.{put_tree, PutText, Comes, Runs, body_in}
use Rattle.snap_front.specs.Runs.PutEnd.{taken, refused}
use Rattle.snap_front.proofs.Bodies.{bodies-stay, there_now}

-- a run falls into the commands before one, that one, and those after it
record IsSplit (docs docs' : Docs) (c : CommandView) (r : ReplyView) (after : List CommandView) (later : List ReplyView) : Type 0 where
  mid : Docs
  next : Docs
  here : Comes mid c (next, r)
  rest : Runs next after docs' later

run-split : (docs docs' : Docs) (before after : List CommandView) (c : CommandView) (earlier later : List ReplyView) (r : ReplyView) → length earlier ≡ length before
    → Runs docs (before ++ c ∷ after) docs' (earlier ++ r ∷ later) → IsSplit docs docs' c r after later
run-split docs docs' [] after c [] later r n run = record { mid = docs; next = run.0; here = run.1; rest = run.2 }
run-split docs docs' [] after c (x ∷ xs) later r n run = absurd (omega (arith, n))
run-split docs docs' (b ∷ bs) after c [] later r n run = absurd (omega (arith, n))
run-split docs docs' (b ∷ bs) after c (x ∷ xs) later r n run =
    let fewer : length xs ≡ length bs = omega (arith, n) in
    let more = run-split run.0 docs' bs after c xs later r fewer run.2 in
    record { mid = more.mid; next = more.next; here = more.here; rest = more.rest }

-- what is put is there
put-there : (docs : Docs) (name body : List ℕ) (p : Plain) → (put_tree docs name body p).1 ≡ done → body_in name (put_tree docs name body p).0 ≡ Some body
put-there docs name body (dict es) e = ap (option_map (λ (d : Document). d.body)) (there_now name (record { head = content_of (dict es); body = body }) docs)
put-there docs name body null e = absurd (cc)
put-there docs name body (bool b) e = absurd (cc)
put-there docs name body (int z) e = absurd (cc)
put-there docs name body (text s) e = absurd (cc)
put-there docs name body (list ps) e = absurd (cc)

text-there : (docs next : Docs) (name : List ℕ) (o : Option (List ℕ × List ℕ)) → PutText docs name o (next, done) → body_in name next ≡ option_map (λ (parts : List ℕ × List ℕ). parts.1) o
text-there docs next name None is = let no : done ≡ not_front = ap (λ (x : Docs × ReplyView). x.1) is in absurd (cc)
text-there docs next name (Some parts) (taken p may is) =
    ap (λ (x : Docs × ReplyView). body_in name x.0) is ∙ put-there docs name parts.1 p (sym (ap (λ (x : Docs × ReplyView). x.1) is))
text-there docs next name (Some parts) (refused none is) = let no : done ≡ bad_header = ap (λ (x : Docs × ReplyView). x.1) is in absurd (cc)

pub last-put : (docs docs' : Docs) (cs : List CommandView) (rs : List ReplyView) (name words : List ℕ) → Runs docs cs docs' rs → IsLastPut name words cs rs → body_in name docs' ≡ body_of words
last-put docs docs' cs rs name words run last =
    let whole : Runs docs (last.before ++ puts name words ∷ last.after) docs' (last.earlier ++ done ∷ last.later)
    = subst (λ c. Runs docs c docs' (last.earlier ++ done ∷ last.later)) last.commands_are (subst (Runs docs cs docs') last.replies_are run) in
    let at = run-split docs docs' last.before last.after (puts name words) last.earlier last.later done last.as_many whole in
    bodies-stay at.next docs' last.after last.later name at.rest last.none_later ∙ text-there at.mid at.next name (front_read words) at.here

-- a reply more
again-pushed : (rs : List ReplyView) (r : ReplyView) → AreAgain rs → IsAgain r → AreAgain (rs ++ r ∷ [])
again-pushed [] r h k = (k, tt)
again-pushed (x ∷ xs) r h k = (h.0, again-pushed xs r h.1 k)

pub again-more : (rs now : List ReplyView) (r : ReplyView) → now ≡ rs ++ r ∷ [] → AreAgain rs → IsAgain r → AreAgain now
again-more rs now r is h k = subst AreAgain (sym is) (again-pushed rs r h k)
