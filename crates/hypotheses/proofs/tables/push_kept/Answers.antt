-- Two numbers of the index, handed on. Assumes nothing.
use Rattle.models.specs.Index.{entry}
use Rattle.hypotheses.specs.Listing.{kept_lines}
use Rattle.hypotheses.proofs.tables.push_kept.Goals as goal

pub returns : goal.returns
unfolding kept_lines entry
returns c = record { result_after = c.push.ensures.result_after; onto = c.push.ensures.onto }

pub push-requires : goal.push-requires
unfolding entry
push-requires c = let p = c.requires in record { in_bounds = (p.in_bounds.0, p.in_bounds.1.0); stacked = (p.in_bounds.1.1, p.kept_in_bounds.1) }
