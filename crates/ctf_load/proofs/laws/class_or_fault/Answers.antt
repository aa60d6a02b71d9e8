use Rattle.ctf_load.proofs.Existing.{class_or_fault_of}
use Rattle.ctf_load.proofs.laws.class_or_fault.Goals as goal

pub returns : goal.returns
returns c = class_or_fault_of
