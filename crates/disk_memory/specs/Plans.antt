-- Which calls fail by a plan.
use Rattle.std.specs.Prelude.{ℕ, ◌≤◌, IsSomeAnd, Contains}
use Rattle.disk_memory.specs.declared.plan.Plan.{Plan}
use Rattle.disk_memory.specs.declared.plan.Verdict.{Verdict}
use Rattle.disk_memory.specs.declared.plan.Verdict.TheVariants.{Goes, Fails, Stopped}

-- the call comes after the stop
abbrev pub IsPast : Plan → ℕ → Type 0
IsPast plan call = IsSomeAnd plan.stop (λ count. count ≤ call)

-- the call is one of those that are to fail
abbrev pub IsListed : Plan → ℕ → Type 0
IsListed plan call = Contains plan.failing.items call

-- whether the call is done or fails; the stop goes before the list
abbrev pub IsVerdict : Plan → ℕ → Verdict → Type 0
IsVerdict plan call Stopped = IsPast plan call
IsVerdict plan call Fails = (IsPast plan call → ⊥) × IsListed plan call
IsVerdict plan call Goes = (IsPast plan call → ⊥) × (IsListed plan call → ⊥)
