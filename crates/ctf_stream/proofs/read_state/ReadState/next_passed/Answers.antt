use Rattle.std.proofs.Common.{[], Some, refl, rules}
use Rattle.ctf_bits.specs.declared.source.Ending.TheVariants.{Clean}
use Rattle.std.proofs.lemmas.Option.{IfSome_then}
use Rattle.ctf_stream.proofs.ReadStates.{follows, inside, takes_item}
use Rattle.ctf_stream.proofs.read_state.ReadState.next_passed.Goals as goal

pub returns : goal.returns
returns c =
    let old = c.args.self.now in
    let p = c.in-Some.packet in
    let q = c.next_passed.new.self in
    let same = c.next_passed.ensures.opened in
    let result = c.next_passed.result in
    record {
      advances = λ ending left. (let stands = inside old.cut ending left old.buffer old.taken old.packet p c.in-Some.is c.requires.stands in IfSome_then result (c.next_passed.ensures.takes old.cut.shift (follows old.cut ending left old.buffer old.scopes p) stands.fetched.line) (λ front takes. takes_item old.cut ending left old.buffer old.packet old.scopes old.scopes p q (Some front) front c.in-Some.is same refl refl takes));
      stands = search rules;
      shared = search rules;
      found = search rules;
      holds = (let stands = inside old.cut Clean [] old.buffer old.taken old.packet p c.in-Some.is c.requires.stands in c.next_passed.ensures.holds old.cut.shift c.next_passed.new.line.part c.next_passed.new.line.bytes.items stands.fetched.line);
      room = search rules;
      taken = refl;
      writes = refl;
      cut = refl;
      buffer = refl;
      none = search rules;
    }
