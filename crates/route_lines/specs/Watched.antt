-- What is known of a watched reader or writer.
use Rattle.std.specs.Prelude.{ℕ, ◌&&◌, ◌==◌, List, length, Result, Ok, Err, nat_lt, if◌then◌else◌}
use Rattle.route_lines.specs.declared.watched.Watched.{Watched}

-- the reader or writer that is watched
abbrev pub inner_of : {T : Type 0} → Watched T → T
inner_of w = w.inner

-- how many of its calls failed
abbrev pub failed_of : {T : Type 0} → Watched T → ℕ
failed_of w = w.failed

-- how many calls it had
abbrev pub calls_of : {T : Type 0} → Watched T → ℕ
calls_of w = w.calls

-- one for a call that failed
abbrev pub failures : {T E : Type 0} → Result T E → ℕ
failures (Ok x) = 0
failures (Err e) = 1

-- one for a write of these bytes that failed, or that took none of them where there were some
abbrev pub write_failures : {E : Type 0} → Result ℕ E → List ℕ → ℕ
write_failures (Ok n) bytes = if (n == 0) && nat_lt 0 (length bytes) then 1 else 0
write_failures (Err e) bytes = 1
