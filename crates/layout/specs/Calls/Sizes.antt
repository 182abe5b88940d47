-- The size call: its refusal number and its contract. It writes the length of each output of the cut.
use Rattle.std.specs.Prelude.{ℕ, List, ◌≡◌, length}
use Rattle.layout.specs.Problems.Problem.{Problem, Route}
use Rattle.layout.specs.Checks.{refusal}
use Rattle.layout.specs.Calls.Answers.{output, or_else, room_refusal, on_route, route_of}
use Rattle.layout.specs.Calls.Cut.{sizes}

abbrev pub sizes_refusal : Route → Problem → ℕ → ℕ
sizes_refusal route p room = or_else (refusal route p) (room_refusal 11 room)

pub record Sizes (route : ℕ) (p : Problem) (before after : List ℕ) (r : ℕ) : Type 0 where
  pub number : r ≡ on_route route (λ rt. sizes_refusal rt p (length before))
  pub out : after ≡ output r (sizes (route_of route) p) before
