-- How many requests a line sends in a second.
use Rattle.std.specs.Prelude.{ℕ, ◌+◌, ◌-◌, nat_lt, Bool, Option, None, Some, if◌then◌else◌}

-- the present second, by when it began in milliseconds, and how many requests were sent in it, at
-- this moment: it is over after a second, and the next one begins with the next request
abbrev pub present_at : Option (ℕ × ℕ) → (now : ℕ) → ℕ × ℕ
present_at None now = (now, 0)
present_at (Some (begun, sent)) now = if nat_lt (now - begun) 1000 then (begun, sent) else (now, 0)

-- one more may be sent: it is one of the first hundred of that second
abbrev pub may_send : Option (ℕ × ℕ) → (now : ℕ) → Bool
may_send present now = nat_lt (present_at present now).1 100

-- the second after a request that was asked for then
abbrev pub present_after : Option (ℕ × ℕ) → (now : ℕ) → Option (ℕ × ℕ)
present_after present now =
    let second = present_at present now in
    if nat_lt second.1 100 then Some (second.0, second.1 + 1) else present
