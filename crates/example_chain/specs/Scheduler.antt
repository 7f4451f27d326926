-- What is seen of a scheduler.
use Rattle.std.specs.Prelude.{◌≡◌, ℕ, ◌-◌, ◌^◌, ◌<◌, ◌≤◌, Bool, false, Option, None, IfSome}
use Rattle.std.specs.Prelude.{if◌then◌else◌}
use Rattle.triple_arena.specs.Content.{Content, entry_at, IsWellFormed}
use Rattle.triple_arena.specs.Entries.{value_if}
use Rattle.example_chain.specs.declared.scheduler.Task.{Task}

-- the tasks, and whether no pointer is left to give
pub record State : Type 0 where
  pub tasks : Content Task
  pub is_spent : Bool

-- the task that a pointer with this index and generation names
abbrev pub task_at : State → ℕ → ℕ → Option Task
task_at s index generation = value_if generation (entry_at s.tasks index)

-- how many tasks can still be cancelled until no pointer is left
abbrev pub endings_left : State → ℕ
endings_left s = if s.is_spent then 0 else 2 ^ 64 - s.tasks.counter

-- it names none, and no later task gets it
pub record HasEnded (s : State) (index generation : ℕ) : Type 0 where
  pub gone : task_at s index generation ≡ None
  pub past : s.is_spent ≡ false → generation < s.tasks.counter

-- while pointers are left, no task has a generation past that of the next one
pub record IsSound (s : State) : Type 0 where
  pub formed : IsWellFormed s.tasks
  pub given : s.is_spent ≡ false → (i : ℕ)
      → IfSome (entry_at s.tasks i) (λ e. e.0 ≤ s.tasks.counter)
  pub limitless : s.tasks.room.limit ≡ None
