-- Commands in turn.
use Rattle.snap_front.proofs.Prelude.{◌≡◌, ℕ, zero, suc, ◌+◌, ◌<◌, ◌≤◌, List, [], ◌∷◌, ◌++◌, refl, sym, ap, ◌∙◌, subst, arith, drop, length, get_or, append_assoc, append-nil}
use Rattle.std.specs.Prelude.{map}
use Rattle.snap_front.specs.Commands.{CommandView, ReplyView, command_of, reply_of}
use Rattle.snap_front.specs.Documents.{Docs}
use Rattle.snap_front.specs.Runs.{Comes, Runs}
use Rattle.snap_front.specs.declared.command.Command.{Command}
use Rattle.snap_front.specs.declared.reply.Reply.{Reply}

-- a run of the commands that are left goes on to one of all of them
abbrev pub GoesOn : List CommandView → List CommandView → Docs → List ReplyView → Type 0
GoesOn all rest docs replies = (docs' : Docs) (more : List ReplyView) → Runs docs rest docs' more → Runs [] all docs' (replies ++ more)

pub goes-from-start : (all : List CommandView) → GoesOn all all [] []
goes-from-start all docs' more run = run

pub pushed : (rs : List Reply) (r : Reply) → map reply_of (rs ++ r ∷ []) ≡ map reply_of rs ++ reply_of r ∷ []
pushed [] r = refl
pushed (x ∷ xs) r = ap (λ ys. reply_of x ∷ ys) (pushed xs r)

pub goes-further : (all rest : List CommandView) (c : CommandView) (docs mid : Docs) (rs now : List Reply) (r : Reply) → GoesOn all (c ∷ rest) docs (map reply_of rs) → Comes docs c (mid, reply_of r) → now ≡ rs ++ r ∷ []
    → GoesOn all rest mid (map reply_of now)
goes-further all rest c docs mid rs now r on comes is docs' more run =
    subst (λ ys. Runs [] all docs' (ys ++ more)) (sym (ap (map reply_of) is ∙ pushed rs r))
    (subst (Runs [] all docs') (sym (append_assoc (map reply_of rs) (reply_of r ∷ []) more)) (on docs' (reply_of r ∷ more) (mid, comes, run)))

pub goes-to-end : (all : List CommandView) (docs : Docs) (replies : List ReplyView) → GoesOn all [] docs replies → Runs [] all docs replies
goes-to-end all docs replies on = subst (Runs [] all docs) (append-nil replies) (on docs [] refl)

drop-here : (xs : List Command) (i : ℕ) (x : Command) → i < length xs → x ≡ get_or xs i x → drop i xs ≡ x ∷ drop (suc i) xs
drop-here [] i x small is = absurd (omega (arith, small))
drop-here (y ∷ ys) zero x small is = ap (λ z. z ∷ ys) (sym is)
drop-here (y ∷ ys) (suc i) x small is = drop-here ys i x (omega (arith, small)) is

drop-none : (xs : List Command) (n : ℕ) → length xs ≤ n → drop n xs ≡ []
drop-none [] zero large = refl
drop-none [] (suc n) large = refl
drop-none (x ∷ xs) zero large = absurd (omega (arith, large))
drop-none (x ∷ xs) (suc n) large = drop-none xs n (omega (arith, large))

pub one-more : (all : List CommandView) (xs : List Command) (i : ℕ) (x : Command) (docs mid : Docs) (rs now : List Reply) (r : Reply) → i < length xs → x ≡ get_or xs i x
    → GoesOn all (map command_of (drop i xs)) docs (map reply_of rs) → Comes docs (command_of x) (mid, reply_of r) → now ≡ rs ++ r ∷ [] → GoesOn all (map command_of (drop (i + 1) xs)) mid (map reply_of now)
one-more all xs i x docs mid rs now r small is on comes same =
    let next : suc i ≡ i + 1 = omega arith in
    let left : drop i xs ≡ x ∷ drop (i + 1) xs = drop-here xs i x small is ∙ ap (λ n. x ∷ drop n xs) next in
    goes-further all (map command_of (drop (i + 1) xs)) (command_of x) docs mid rs now r (subst (λ ys. GoesOn all (map command_of ys) docs (map reply_of rs)) left on) comes same

pub at-end : (all : List CommandView) (xs : List Command) (i : ℕ) (docs : Docs) (replies : List ReplyView) → length xs ≤ i → GoesOn all (map command_of (drop i xs)) docs replies → Runs [] all docs replies
at-end all xs i docs replies large on = goes-to-end all docs replies (subst (λ ys. GoesOn all (map command_of ys) docs replies) (drop-none xs i large) on)
