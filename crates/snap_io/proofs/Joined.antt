-- A name of one component, and its path in a folder.
use Rattle.snap_io.proofs.Prelude.{◌≡◌, ◌≢◌, ◌==◌, ℕ, Bool, true, false, not, ◌&&◌, List, [], ◌∷◌, ◌++◌, length, drop, sym, ◌∙◌, ap, subst, chars-append, encodes-append, encodes-chars, IsTrue, ◌↔◌, list_any, chars, IsUtf8, is_component, IsName, name-from-parts, name-parts}
use Rattle.std.proofs.Math.Seq.{drop-append_seam}
use lib.Utf8.{encodes}
use Rattle.snap_content.proofs.Booleans.{not_true}

-- a text that begins with another, by bytes and by characters
pub behind_front : (bs front rest : List ℕ) → IsUtf8 front → bs ≡ front ++ rest → chars bs ≡ chars front ++ chars rest
behind_front bs front rest u is = ap chars is ∙ chars-append front rest u

pub not_behind : (bs front : List ℕ) → IsUtf8 bs → IsUtf8 front → ((rest : List ℕ) → bs ≢ front ++ rest) → (cs : List ℕ) → chars bs ≢ chars front ++ cs
not_behind bs front u v none cs is =
    none (encodes cs) (sym (encodes-chars bs u) ∙ ap encodes is ∙ encodes-append (chars front) cs ∙ ap (λ x. x ++ encodes cs) (encodes-chars front v))

abbrev pub has_slash : List ℕ → Bool
has_slash cs = list_any (λ c. c == 47) cs

pub name_from_tests : (n : List ℕ) → is_component n ≡ true → has_slash n ≡ false → IsName n
name_from_tests n part none = name-from-parts n (record { component = part; unbroken = none })

pub tests_from_name : (n : List ℕ) → IsName n → (is_component n ≡ true) × (has_slash n ≡ false)
tests_from_name n name = let parts = name-parts n name in (parts.component, parts.unbroken)

-- the test of a name
pub name_test : (n : List ℕ) (slash : Bool) → is_component n ≡ true → slash ≡ has_slash n → IsTrue (not slash) ↔ IsName n
name_test n slash part is = (λ t. name_from_tests n part (sym is ∙ not_true slash t), λ name. ap not (is ∙ (tests_from_name n name).1))

-- where what follows the front is no name, the path is no name's
pub no_name_behind : (path front rest : List ℕ) → path ≡ front ++ rest → (IsName rest → ⊥) → (n : List ℕ) → IsName n → path ≢ front ++ n
no_name_behind path front rest at bad n is there =
    let same : n ≡ rest = sym (drop-append_seam front n) ∙ ap (drop (length front)) (sym there ∙ at) ∙ drop-append_seam front rest in
    bad (subst IsName same is)
