-- How the roles of a run end.
use Rattle.std.proofs.Common.{◌≡◌, ℕ, zero, suc, Bool, true, false, ◌&&◌, not, sym, ◌∙◌}
use Rattle.std.proofs.lemmas.Bool.{and_parts, false≢true, true≢false}
use Rattle.flow_journal.specs.declared.entry.Entry.{Entry}
use Rattle.flow_journal.specs.Pasts.{Past}
use Rattle.flow_journal.specs.Ended.{reclaims, is_closed, is_settled, has_left_any}
use Rattle.flow_roles.specs.declared.last.Last.{Last}
use Rattle.flow_roles.specs.declared.last.Last.TheVariants as last
use Rattle.flow_roles.specs.RoleEnds.{feeder_ends, worker_ends}
use Rattle.flow_roles.proofs.TakenBack.{feeder-none, worker-none}
use Rattle.flow_run.specs.Seats.{post_logs}

-- WITHOUT A LEAVE

both-parts : (a b : Bool) → (a && b) ≡ true → b ≡ false → ⊥
both-parts a b h none = true≢false (sym (and_parts a b h).1 ∙ none)

-- the feeder has closed the feed
pub feeder-closed : (l : Last) (P : Past) (want : Bool) → feeder_ends l P want ≡ true → has_left_any P ≡ false → is_closed P ≡ true
feeder-closed last.Left P want h none = absurd (both-parts (not want) (has_left_any P) h none)
feeder-closed last.Closed P want h none = (and_parts (not want) (is_closed P) h).1
feeder-closed last.Gone P want h none = absurd (both-parts want (has_left_any P) h none)
feeder-closed last.Fresh P want h none = absurd (false≢true h)
feeder-closed last.Ended P want h none = absurd (false≢true h)
feeder-closed last.NotYours P want h none = absurd (false≢true h)
feeder-closed last.Other P want h none = absurd (false≢true h)

-- and a worker's node is settled
pub worker-settled : (v : ℕ) (l : Last) (P : Past) (want : Bool) → worker_ends v l P want ≡ true → has_left_any P ≡ false → is_settled v P ≡ true
worker-settled v last.Left P want h none = absurd (both-parts (not want) (has_left_any P) h none)
worker-settled v last.Ended P want h none = (and_parts (not want) (is_settled v P) h).1
worker-settled v last.Gone P want h none = absurd (both-parts want (has_left_any P) h none)
worker-settled v last.Fresh P want h none = absurd (false≢true h)
worker-settled v last.Closed P want h none = absurd (false≢true h)
worker-settled v last.NotYours P want h none = absurd (false≢true h)
worker-settled v last.Other P want h none = absurd (false≢true h)

-- NO ROLE TAKES BACK A HAND

pub post-none : (v r : ℕ) (e : Entry) → post_logs v e ≡ true → reclaims r e ≡ false
post-none zero r e h = feeder-none r e h
post-none (suc v) r e h = worker-none (suc v) r e h
