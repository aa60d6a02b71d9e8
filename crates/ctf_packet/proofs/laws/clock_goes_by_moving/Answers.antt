use Rattle.ctf_packet.proofs.Stamps.{integers_same, values_same}
use Rattle.ctf_packet.proofs.laws.clock_goes_by_moving.Goals as goal

pub returns : goal.returns
returns c = record { of_integers = λ i v w h. integers_same i v w h; of_values = λ k d env p v q w s. values_same k d env p v q w s }
