-- The scopes of an event record, one after the other.
use Rattle.std.proofs.Common.{◌≡◌, ℕ, List, Option, Some, Result, Ok, Err, ◌⊎◌, inl, inr, OnOk, refl, sym, ap, ◌∙◌, subst}
use Rattle.ctf_class.specs.declared.route.Scope.{Scope}
use Rattle.ctf_class.specs.declared.route.Scope.TheVariants.{StreamEventContext, EventContext, EventFields}
use Rattle.ctf_decode.specs.Known.{Known}
use Rattle.ctf_decode.specs.Forms.{Form}
use Rattle.ctf_packet.specs.Scopes.{◌>>=◌, Values, put, input_of, Stood, scope_at, fault_in_record}
use Rattle.ctf_packet.specs.Records.{Body, bodied}
use Rattle.ctf_packet.specs.Views.{values_of, packet_values, PutsScope, PutsBody}
use Rattle.ctf_packet.specs.declared.fault.StreamFault.{StreamFault}
use Rattle.ctf_packet.specs.declared.fault.StreamFault.TheVariants as faults

module _ (shared_class own_class : Option Form) (fields_class : Form) (bytes : List ℕ) (content : ℕ) where
  abbrev pub At : Scope → Option Form → Known → ℕ → Result ℕ StreamFault → Known → Type 0
  At scope k known place result after = PutsScope scope (values_of known) (scope_at fault_in_record k (input_of bytes content (values_of known)) place known.spent) result after

  abbrev after_own : Values → Stood → Result Body StreamFault
  after_own v own =
      let with_own = put EventContext own.value v in
      scope_at fault_in_record (Some fields_class) (input_of bytes content with_own) own.end own.spent >>= (λ fields. Ok (record { values = put EventFields fields.value with_own; end = fields.end }))

  abbrev after_shared : Values → Stood → Result Body StreamFault
  after_shared v shared =
      let with_shared = put StreamEventContext shared.value v in
      scope_at fault_in_record own_class (input_of bytes content with_shared) shared.end shared.spent >>= after_own with_shared

  opens : (known : Known) (place : ℕ) → bodied shared_class own_class fields_class bytes content (values_of known) place known.spent ≡ (scope_at fault_in_record shared_class (input_of bytes content (values_of known)) place known.spent >>= after_shared (values_of known))
  unfolding bodied
  opens known place = refl

  abbrev pub Refuses : Known → ℕ → StreamFault → Type 0
  Refuses known place f = (bodied shared_class own_class fields_class bytes content (values_of known) place known.spent ≡ Err f) ⊎ (f ≡ faults.NoMemory)

  pub no_shared : (known after : Known) (place : ℕ) (f : StreamFault) → At StreamEventContext shared_class known place (Err f) after → Refuses known place f
  no_shared known after place f (inl e) = inl (opens known place ∙ ap (λ r. r >>= after_shared (values_of known)) e)
  no_shared known after place f (inr e) = inr e

  -- a scope's value leads to where the code is
  next : (scope : Scope) (k l : Option Form) (known after : Known) (place end : ℕ) (h : At scope k known place (Ok end) after)
      → scope_at fault_in_record l (input_of bytes content (put scope (h.0).value (values_of known))) (h.0).end (h.0).spent ≡ scope_at fault_in_record l (input_of bytes content (values_of after)) end after.spent
  next scope k l known after place end h = λ i. scope_at fault_in_record l (input_of bytes content (sym h.4 i)) (sym h.2 i) (sym h.3 i)

  to_own : (known mid : Known) (place end : ℕ) (h : At StreamEventContext shared_class known place (Ok end) mid)
      → bodied shared_class own_class fields_class bytes content (values_of known) place known.spent ≡ (scope_at fault_in_record own_class (input_of bytes content (values_of mid)) end mid.spent >>= after_own (values_of mid))
  to_own known mid place end h =
      opens known place
      ∙ (ap (λ r. r >>= after_shared (values_of known)) h.1
      ∙ (λ i. next StreamEventContext shared_class own_class known mid place end h i >>= after_own (sym h.4 i)))

  pub no_own : (known mid after : Known) (place end : ℕ) (f : StreamFault) → At StreamEventContext shared_class known place (Ok end) mid → At EventContext own_class mid end (Err f) after → Refuses known place f
  no_own known mid after place end f h (inl e) = inl (to_own known mid place end h ∙ ap (λ r. r >>= after_own (values_of mid)) e)
  no_own known mid after place end f h (inr e) = inr e

  to_fields : (known mid last : Known) (place end further : ℕ) (h : At StreamEventContext shared_class known place (Ok end) mid) (g : At EventContext own_class mid end (Ok further) last)
      → bodied shared_class own_class fields_class bytes content (values_of known) place known.spent
      ≡ (scope_at fault_in_record (Some fields_class) (input_of bytes content (values_of last)) further last.spent >>= (λ fields. Ok (record { values = put EventFields fields.value (values_of last); end = fields.end })))
  to_fields known mid last place end further h g =
      to_own known mid place end h
      ∙ (ap (λ r. r >>= after_own (values_of mid)) g.1
      ∙ (λ i. next EventContext own_class (Some fields_class) mid last end further g i >>= (λ fields. Ok (record { values = put EventFields fields.value (sym g.4 i); end = fields.end }))))

  pub no_fields : (known mid last after : Known) (place end further : ℕ) (f : StreamFault) → At StreamEventContext shared_class known place (Ok end) mid → At EventContext own_class mid end (Ok further) last → At EventFields (Some fields_class) last further (Err f) after → Refuses known place f
  no_fields known mid last after place end further f h g (inl e) =
      inl (to_fields known mid last place end further h g ∙ ap (λ r. r >>= (λ fields. Ok (record { values = put EventFields fields.value (values_of last); end = fields.end }))) e)
  no_fields known mid last after place end further f h g (inr e) = inr e

  pub all_fields : (known mid last after : Known) (place end further q : ℕ) → At StreamEventContext shared_class known place (Ok end) mid → At EventContext own_class mid end (Ok further) last → At EventFields (Some fields_class) last further (Ok q) after
      → bodied shared_class own_class fields_class bytes content (values_of known) place known.spent ≡ Ok (record { values = values_of after; end = q })
  all_fields known mid last after place end further q h g k =
      to_fields known mid last place end further h g
      ∙ (ap (λ r. r >>= (λ fields. Ok (record { values = put EventFields fields.value (values_of last); end = fields.end }))) k.1
      ∙ (λ i. Ok (record { values = sym k.4 i; end = sym k.2 i })))

  pub puts : (known mid last after : Known) (place end further : ℕ) (result : Result ℕ StreamFault) → At StreamEventContext shared_class known place (Ok end) mid → At EventContext own_class mid end (Ok further) last → At EventFields (Some fields_class) last further result after
      → PutsBody (bodied shared_class own_class fields_class bytes content (values_of known) place known.spent) result after
  puts known mid last after place end further (Ok q) h g k = all_fields known mid last after place end further q h g k
  puts known mid last after place end further (Err f) h g k = no_fields known mid last after place end further f h g k

  pub keeps : (known mid last after : Known) (place end further : ℕ) (result : Result ℕ StreamFault) → At StreamEventContext shared_class known place (Ok end) mid → At EventContext own_class mid end (Ok further) last → At EventFields (Some fields_class) last further result after
      → OnOk result (packet_values (values_of after) ≡ packet_values (values_of known))
  keeps known mid last after place end further (Ok q) h g k = ap packet_values k.4 ∙ (ap packet_values g.4 ∙ ap packet_values h.4)
  keeps known mid last after place end further (Err f) h g k = tt

pub refused : (x : Result ℕ StreamFault) (f : StreamFault) (r : Result Body StreamFault) (after : Known) → x ≡ Err f → (r ≡ Err f) ⊎ (f ≡ faults.NoMemory) → PutsBody r x after
refused x f r after e h = subst (λ (y : Result ℕ StreamFault). PutsBody r y after) (sym e) h
