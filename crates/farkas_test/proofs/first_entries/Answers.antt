-- From sums that are all 0, nothing was added before. Assumes nothing.
use Rattle.farkas_test.proofs.RowSizes.{none_within}
use Rattle.farkas_test.proofs.first_entries.Goals as goal

pub entries-requires-clause-within : goal.entries-requires-clause-within
entries-requires-clause-within c = none_within c.args.sums.now c.requires.sums_value
