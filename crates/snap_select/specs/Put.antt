-- What a redaction may put in place of a value.
use Rattle.std.specs.Prelude.{◌≡◌, List, map, Ok}
use Rattle.snap_content.specs.Tree.{Tree}
use Rattle.snap_content.specs.View.{tree}
use Rattle.snap_select.specs.InOrder.{in_order}
use Rattle.snap_select.specs.Matching.{Step, step_of}
use Rattle.snap_select.specs.declared.fn_redactor.FnRedactor.{FnRedactor}
use Rattle.snap_select.specs.declared.redaction.Redaction.{Redaction}
use Rattle.snap_select.specs.declared.redaction.Redaction.TheVariants.{Static, Sorted, Dynamic, Function}

-- which trees may be put in place of a value at the end of these steps
abbrev pub Allowed : Type 1
Allowed = Tree → List Step → Tree → Type 0

-- what an object in a box allows is told by its table: X is the type of tables, P the type that stands after each
abbrev pub Objects : (X : Type 0) → (X → Type 0) → Type 1
Objects X P = (v : X) → P v → Allowed

-- what the contract of a stored function promises of a call: g is what is promised of calls
abbrev pub Gives : {X : Type 0} {P : X → Type 0} {g : _} → FnRedactor X P g → Allowed
Gives {g = g} function t steps out =
    (alloc : _) × (value : _) × (path : _) × (new : _) × (tree value ≡ t) × (map step_of path.now ≡ steps) × (tree new ≡ out)
    × g.post (function.func.vtable, function.func.value) (alloc, (value, (path, tt))) (Ok new)

-- what may be put in place of a value: the same tree; the value in order; what an object allows; what a function promises
abbrev pub Puts : {X : Type 0} {P : X → Type 0} {Y : Type 0} {Q : Y → Type 0} {g : _} → Objects X P → Redaction X Y P Q g → Allowed
Puts allows (Static content) t steps out = out ≡ tree content
Puts allows Sorted t steps out = out ≡ in_order t
Puts allows (Dynamic object) t steps out = allows object.vtable object.value t steps out
Puts allows (Function function) t steps out = Gives function t steps out
