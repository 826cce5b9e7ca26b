-- The numbers that stand for an order, and for what a step of a walk took. The header has the same numbers.
use Rattle.std.specs.Prelude.{ℕ}
use Rattle.std.specs.declared.cmp.Ordering.{Ordering}
use Rattle.std.specs.declared.cmp.Ordering.TheVariants.{Less, Equal, Greater}

-- the number of an order
abbrev pub order_number : Ordering → ℕ
order_number Less = 0
order_number Equal = 1
order_number Greater = 2

-- the walk has no component left
abbrev pub no_component : ℕ
no_component = 0

-- the component is `.`
abbrev pub cur_dir : ℕ
cur_dir = 1

-- the component is `..`
abbrev pub parent_dir : ℕ
parent_dir = 2

-- the component is a name
abbrev pub normal : ℕ
normal = 3
