-- What some first bytes ask for says what the packet is.
use Rattle.std.proofs.Common.{◌≡◌, ◌∙◌, ℕ, ◌*◌, ◌<◌, Bool, true, false, List, [], ◌++◌, length, nat_le, if◌then◌else◌, Option, Some, None, Result, Ok, Err, refl, sym, ap, subst, arith, codes, length-append}
use Rattle.std.specs.Prelude.{min}
use Rattle.ctf_bits.specs.declared.source.Ending.{Ending}
use Rattle.ctf_class.specs.declared.route.Scope.TheVariants.{PacketHeader, PacketContext}
use Rattle.ctf_decode.specs.Forms.{Form}
use Rattle.ctf_decode.specs.Values.{Val}
use Rattle.ctf_decode.specs.Breaks.{too_many, past, no_option}
use Rattle.ctf_decode.specs.Walk.{Step, walk}
use Rattle.ctf_decode.specs.declared.scopes.TheConstants.{MOST_VALUES}
use Rattle.ctf_packet.specs.Classes.{TraceForm}
use Rattle.ctf_packet.specs.Scopes.{◌>>=◌, Values, no_values, value_in, put, stood, scope_at, longest, cut_short, fault_in_front}
use Rattle.ctf_packet.specs.Roles.{role, number_in}
use Rattle.ctf_packet.specs.Packets.{Opened, front, stream_checked, sizes_of, are_possible, sizes_checked, placed, open_at}
use Rattle.ctf_packet.specs.declared.reached.Reached.{Reached}
use Rattle.ctf_packet.specs.declared.sizes.Sizes.{Sizes}
use Rattle.ctf_packet.specs.declared.fault.StreamFault.{StreamFault}
use Rattle.ctf_packet.specs.declared.fault.StreamFault.TheVariants as faults
use Rattle.ctf_packet.proofs.Measures.{seen, impossible, not_seen, all_seen}
use Rattle.ctf_packet.proofs.Opening as opening
use Rattle.ctf_packet_demand.specs.Wants.{Begun, Want, more, whole, rest, faulty, asked, asked_at, or_faulty, if_possible, sized, wanted}
use Rattle.ctf_packet_demand.specs.Laws.{WantsTell}
use Rattle.ctf_packet_demand.proofs.Lasting.{Answers, walk_more}
use Rattle.ctf_packet_demand.proofs.Needing.{From, Needs, begins_after, IsAlone, is_alone}
use Rattle.ctf_packet_demand.proofs.Following.{follow, after_context, after_stream, after_header, wants, Sound, sound}

module _ (C : Type 0) (ending : Ending) (reached : Option Reached) (start : ℕ) (have more_bytes : List ℕ) where
  -- the packet once its sizes are known
  abbrev place_of : Begun C → Sizes → Result (Opened C) StreamFault
  place_of begun sizes = placed begun.stream reached start begun.values begun.first sizes

  -- what a packet is whose first bytes ask for this
  abbrev Settles : Want C → Result (Opened C) StreamFault → Type 0
  Settles (more bits) o = min (8 * length (have ++ more_bytes)) longest < bits → o ≡ Err (fault_in_front ending (past bits))
  Settles (whole begun sizes) o = o ≡ (if nat_le sizes.packet (8 * length (have ++ more_bytes)) then place_of begun sizes else Err (cut_short ending))
  Settles (rest begun) o = o ≡ (sizes_checked None None ending (8 * length (have ++ more_bytes)) begun.first >>= place_of begun)
  Settles (faulty fault) o = o ≡ Err fault

  abbrev Leads : {A : Type 0} → Result A (Want C) → Result A StreamFault → Type 0
  Leads (Ok x) o = o ≡ Ok x
  Leads {A = A} (Err want) o = (next : A → Result (Opened C) StreamFault) → Settles want (o >>= next)

  settles_then : {A : Type 0} (r : Result A (Want C)) (o : Result A StreamFault) (next : A → Want C) (go : A → Result (Opened C) StreamFault) → Leads r o → ((x : A) → Settles (next x) (go x)) → Settles (follow r next) (o >>= go)
  settles_then (Ok x) o next go h k = subst (λ p. Settles (next x) (p >>= go)) (sym h) (k x)
  settles_then (Err want) o next go h k = h go

  leads_step : (r s : Step Val) → Answers (min (8 * length (have ++ more_bytes)) longest) r s → Leads (asked r) (stood (fault_in_front ending) s)
  leads_step (Ok x) s h = ap (stood (fault_in_front ending)) h
  leads_step (Err too_many) s h = λ next. ap (λ p. stood (fault_in_front ending) p >>= next) (h tt)
  leads_step (Err no_option) s h = λ next. ap (λ p. stood (fault_in_front ending) p >>= next) (h tt)
  leads_step (Err (past e)) s h = λ next l. ap (λ p. stood (fault_in_front ending) p >>= next) (h l)

  leads_scope : (k : Option Form) (known : Values) (place spent : ℕ) → Leads (asked_at k (front have known) place spent) (scope_at (fault_in_front ending) k (front (have ++ more_bytes) known) place spent)
  leads_scope None known place spent = refl
  leads_scope (Some k) known place spent =
      let l = length-append have more_bytes in
      let n = min (8 * length have) longest in
      let m = min (8 * length (have ++ more_bytes)) longest in
      leads_step (walk k (front have known) [] place spent) (walk k (front (have ++ more_bytes) known) [] place spent)
      (walk_more have more_bytes n m MOST_VALUES (value_in known) (omega (arith, l)) (omega arith) k [] place spent)

  leads_checked : {A : Type 0} (r : Result A StreamFault) → Leads (or_faulty r) r
  leads_checked (Ok x) = refl
  leads_checked (Err fault) = λ next. refl

  -- sizes that are decoded
  settles_told : (begun : Begun C) (p q : Option ℕ) (sizes : Sizes) → sizes_of p q (8 * length (have ++ more_bytes)) ≡ sizes → (((p ≡ None) × (q ≡ None)) → ⊥)
      → Settles (if_possible begun sizes) (sizes_checked p q ending (8 * length (have ++ more_bytes)) begun.first >>= place_of begun)
  settles_told begun p q sizes e told = judged (are_possible sizes begun.first) refl
    where
      n : ℕ
      n = 8 * length (have ++ more_bytes)

      there : (b : Bool) → are_possible sizes begun.first ≡ true → nat_le sizes.packet n ≡ b
          → (sizes_checked p q ending n begun.first >>= place_of begun) ≡ (if b then place_of begun sizes else Err (cut_short ending))
      there true h g =
          let can = ap (λ (s : Sizes). are_possible s begun.first) e ∙ h in
          let yes = seen p q ending (sizes_of p q n) n told ∙ (ap (λ (s : Sizes). nat_le s.packet n) e ∙ g) in
          ap (λ r. r >>= place_of begun) (all_seen p q ending n begun.first can yes ∙ ap Ok e)
      there false h g =
          let can = ap (λ (s : Sizes). are_possible s begun.first) e ∙ h in
          let no = seen p q ending (sizes_of p q n) n told ∙ (ap (λ (s : Sizes). nat_le s.packet n) e ∙ g) in
          ap (λ r. r >>= place_of begun) (not_seen p q ending n begun.first can no)

      judged : (b : Bool) → are_possible sizes begun.first ≡ b → Settles (if b then whole begun sizes else faulty faults.ImpossibleSizes) (sizes_checked p q ending n begun.first >>= place_of begun)
      judged true h = there (nat_le sizes.packet n) h refl
      judged false h =
          ap (λ r. r >>= place_of begun) (impossible p q ending n begun.first (ap (λ (s : Sizes). are_possible s begun.first) e ∙ h))

  settles_sized : (begun : Begun C) (p q : Option ℕ) → Settles (sized begun p q) (sizes_checked p q ending (8 * length (have ++ more_bytes)) begun.first >>= place_of begun)
  settles_sized begun None None = refl
  settles_sized begun (Some p) (Some q) =
      settles_told begun (Some p) (Some q) (record { packet = p; content = q }) refl (λ h. let e : Some p ≡ None = h.0 in cc)
  settles_sized begun (Some p) None =
      settles_told begun (Some p) None (record { packet = p; content = p }) refl (λ h. let e : Some p ≡ None = h.0 in cc)
  settles_sized begun None (Some q) =
      settles_told begun None (Some q) (sizes_of None (Some q) 0) refl (λ h. let e : Some q ≡ None = h.1 in cc)

  settles : (trace : TraceForm C) → Settles (wanted trace reached have) (open_at trace ending reached start (have ++ more_bytes))
  settles trace =
      subst (λ w. Settles w (open_at trace ending reached start (have ++ more_bytes))) (sym (wants trace reached have))
      (subst (Settles (follow (asked_at trace.packet_header (front have no_values) 0 0) (after_header trace reached have))) (sym (opening.opens trace ending reached start (have ++ more_bytes)))
      (settles_then (asked_at trace.packet_header (front have no_values) 0 0) (scope_at (fault_in_front ending) trace.packet_header (front (have ++ more_bytes) no_values) 0 0) (after_header trace reached have) (opening.after_header trace ending reached start (have ++ more_bytes)) (leads_scope trace.packet_header no_values 0 0)
      (λ header.
      let known = put PacketHeader header.value no_values in
      settles_then (or_faulty (stream_checked trace reached header.value)) (stream_checked trace reached header.value) (after_stream trace reached have header) (opening.after_stream trace ending reached start (have ++ more_bytes) header) (leads_checked (stream_checked trace reached header.value))
      (λ stream. settles_then (asked_at stream.packet_context (front have known) header.end header.spent) (scope_at (fault_in_front ending) stream.packet_context (front (have ++ more_bytes) known) header.end header.spent) (after_context trace reached have stream known) (opening.after_context trace ending reached start (have ++ more_bytes) stream known) (leads_scope stream.packet_context known header.end header.spent)
      (λ context. settles_sized (record { stream = stream; values = put PacketContext context.value known; first = context.end }) (number_in (role (codes "packet_size") stream.packet_context context.value)) (number_in (role (codes "content_size") stream.packet_context context.value)))))))

-- the laws, of classes of any kind
pub wants_tell : {C : Type 0} → WantsTell C
wants_tell {C} = record {
  faulty = λ trace ending reached start have more_bytes fault e. subst (λ w. Settles C ending reached start have more_bytes w (open_at trace ending reached start (have ++ more_bytes))) e (settles C ending reached start have more_bytes trace);
  more = λ trace ending reached start have more_bytes bits e. subst (λ w. Settles C ending reached start have more_bytes w (open_at trace ending reached start (have ++ more_bytes))) e (settles C ending reached start have more_bytes trace);
  beyond = λ trace reached have bits e. subst (Sound (min (8 * length have) longest)) e (sound C have trace reached);
  whole = λ trace ending reached start have more_bytes begun sizes e. subst (λ w. Settles C ending reached start have more_bytes w (open_at trace ending reached start (have ++ more_bytes))) e (settles C ending reached start have more_bytes trace);
  possible = λ trace reached have begun sizes e. subst (Sound (min (8 * length have) longest)) e (sound C have trace reached);
  rest = λ trace ending reached start have more_bytes begun e. subst (λ w. Settles C ending reached start have more_bytes w (open_at trace ending reached start (have ++ more_bytes))) e (settles C ending reached start have more_bytes trace);
  begins = λ trace reached have more_bytes bits begun sizes e g. subst (From bits) g (subst (λ w. Needs w (wanted trace reached (have ++ more_bytes))) e (begins_after have more_bytes trace reached));
  alone = λ trace reached have begun sizes e. subst IsAlone e (is_alone trace reached have);
  rest_alone = λ trace reached have begun e. subst IsAlone e (is_alone trace reached have);
}
