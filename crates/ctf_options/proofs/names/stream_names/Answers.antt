use Rattle.std.proofs.Common.{◌≡◌, rules}
use Rattle.std.proofs.lemmas.Fn.{filter_same}
use Rattle.std.specs.List.{filter}
use Rattle.std.specs.String.{string_bytes}
use Rattle.ctf_options.specs.Names.{is_stream}
use Rattle.ctf_options.proofs.names.stream_names.Goals as goal

pub returns-clause-kept : goal.returns-clause-kept
returns-clause-kept c =
    let same : c.retain.new.self.items ≡ filter (λ name. is_stream (string_bytes name)) c.args.listed.items = filter_same _ _ _ (λ x b f' k. search rules) _ _ c.retain.ensures.filtered in
    rw (← same) c.sort.ensures.permutation
