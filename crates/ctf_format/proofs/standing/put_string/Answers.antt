use Rattle.std.proofs.Common.{◌≡◌, ℕ, ◌+◌, ◌-◌, ◌*◌, ◌/◌, ◌++◌, List, Option, Some, None, IfSome, take, drop, position, nat_eq, ap, sym, ◌∙◌, refl, Vec}
use Rattle.std.specs.declared.alloc.Global.{Global}
use Rattle.std.specs.Int.{next_multiple_of}
use Rattle.ctf_class.specs.Names.{label_text}
use Rattle.ctf_decode.specs.Forms as forms
use Rattle.ctf_format.specs.Put.{IsPut}
use Rattle.ctf_format.specs.Standing.{PutsOne}
use Rattle.ctf_format.specs.Texts.{string_text}
use Rattle.ctf_format.specs.declared.standing.Position.{Position}
use Rattle.ctf_format.proofs.StandingLemmas.{puts_string}
use Rattle.ctf_format.proofs.standing.put_string.Goals as goal

module _ (packet bytes : List ℕ) (content place begin : ℕ) (before : List ℕ) (starts : begin ≡ next_multiple_of place 8) (are : bytes ≡ take ((content - begin) / 8) (drop (begin / 8) packet)) where
  -- a string of so many bytes was written
  puts_bytes : (n end : ℕ) (after : List ℕ) → position (λ x. nat_eq x 0) bytes ≡ Some n → end ≡ begin + 8 * (n + 1) → after ≡ before ++ label_text (take n bytes) → (a : ℕ) → PutsOne (forms.string a) string_text packet content place end before after
  puts_bytes n end after first ending wrote =
      let left = are ∙ ap (λ m. take ((content - m) / 8) (drop (m / 8) packet)) starts in
      puts_string packet content place end n before after (ap (position (λ x. nat_eq x 0)) (sym left) ∙ first) (ending ∙ ap (λ m. m + 8 * (n + 1)) starts) (wrote ∙ ap (λ xs. before ++ label_text (take n xs)) left)

  -- the same of one that was looked for
  puts_found : (r : Option Position) (buffer after : Vec ℕ Global) (at : ℕ) → before ≡ take at buffer.items → IfSome r (λ e. (n : ℕ) × (position (λ x. nat_eq x 0) bytes ≡ Some n) × (e.place ≡ begin + 8 * (n + 1)) × IsPut buffer at (label_text (take n bytes)) after e.text)
      → IfSome r (λ e. (a : ℕ) → PutsOne (forms.string a) string_text packet content place e.place before (take e.text after.items))
  puts_found (Some e) buffer after at is found = puts_bytes found.0 e.place (take e.text after.items) found.1 found.2 (found.3.text ∙ ap (λ xs. xs ++ label_text (take found.0 bytes)) (sym is))
  puts_found None buffer after at is found = tt

pub returns-clause-puts : goal.returns-clause-puts
returns-clause-puts c =
    puts_found c.args.packet.now.bytes.now c.bytes_from-bytes.result.now c.args.packet.now.end c.args.from.place c.up-begin.result (take c.args.from.text c.args.buffer.now.items) c.up-begin.ensures.value c.bytes_from-bytes.ensures
    c.put_longer_string.result c.args.buffer.now c.put_longer_string.new.buffer c.args.from.text refl c.put_longer_string.ensures.puts

pub returns-in-Some-clause-puts : goal.returns-in-Some-clause-puts
returns-in-Some-clause-puts c =
    puts_bytes c.args.packet.now.bytes.now c.bytes_from-bytes.result.now c.args.packet.now.end c.args.from.place c.up-begin.result (take c.args.from.text c.args.buffer.now.items) c.up-begin.ensures.value c.bytes_from-bytes.ensures
    c.in-Some.count _ _ c.in-Some.ensures.first refl c.put_short.ensures.text
