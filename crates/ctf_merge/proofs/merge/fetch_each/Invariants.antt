use Rattle.ctf_merge.specs.Merges.{FetchedUpTo}
use Rattle.ctf_merge.proofs.merge.fetch_each.Given as goal

abbrev pub invariant-loop-reader : goal.invariant-loop-reader
invariant-loop-reader g l = FetchedUpTo l.reader-index l.initial.readers l.readers
