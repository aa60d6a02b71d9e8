-- Bytes have one text, or are broken in one way.
use Rattle.std.proofs.Common.{◌≡◌, ℕ, ◌<◌, ◌-◌, ◌*◌, ◌/◌, ◌≤◌, cond, List, [], ◌++◌, length, take, drop, Option, Some, None, refl, sym, ap, subst, ◌∙◌, arith, ◌⊎◌, inl, inr, ⊎_elim}
use Rattle.std.specs.Prelude.{MatchOption}
use Rattle.std.proofs.lemmas.List.{append-nil, length-append, take_at, append_cancel_left, take-append-drop}
use Rattle.std.proofs.lemmas.Bool.{cases_lt}
use Rattle.ctf_list.specs.Row.{NothingStands}
use Rattle.ctf_list.proofs.Row.{AreTold, nothing_at_end, one_row, Front, row}
use Rattle.tsdl_text.specs.declared.packet.TheConstants.{HEADER_LEN, MOST_BYTES}
use Rattle.tsdl_text.specs.PacketReading.{HasEnds}
use Rattle.tsdl_text.specs.declared.packet.HeaderOrder.{HeaderOrder}
use Rattle.tsdl_text.specs.declared.fault.MetaFault.{MetaFault}
use Rattle.tsdl_text.specs.declared.fault.MetaFault.TheVariants as faults
use Rattle.tsdl_text.specs.Packets.{Stands, uuid, content_size, packet_size, sizes_fit, or_else, header_fault, first_fault, order_of, Packet, IsPacket, AllPackets, bytes_of, contents_of, IsJoined, IsBrokenAfter, MetaText, MetaBroken}
use Rattle.std.proofs.lemmas.Option.{same_Some, none-some}
use Rattle.tsdl_text.proofs.PacketLemmas.{Passes, Passes-none, header_fault-none, or_else-none, fits_by, sizes_fit-parts, HasEnds-fit, same_header, begins_packet}

-- ---- a good packet passes every check, and is the only one at its place

packet_passes : (order : HeaderOrder) (id : List ℕ) (p : Packet) (after : List ℕ) → IsPacket order id p → Passes order id (p.bytes ++ after)
packet_passes order id p after is =
    let same = same_header order p.bytes after is.has_header in
    let l = length-append p.bytes after in
    let h = is.has_header in
    record {
      has_header = omega arith;
      has_magic = same.front ∙ is.has_magic;
      plain = same.plain ∙ is.plain;
      version = same.version ∙ is.version;
      same_uuid = same.id ∙ is.same_uuid;
    }

packet_ends : (order : HeaderOrder) (id : List ℕ) (p : Packet) (after : List ℕ) (is : IsPacket order id p) → HasEnds order (p.bytes ++ after) (is.content_end, length p.bytes)
packet_ends order id p after is =
    let same = same_header order p.bytes after is.has_header in
    let l = length-append p.bytes after in
    record {
      content_is = same.content ∙ is.content_size_is;
      packet_is = same.packet ∙ is.packet_size_is;
      after_header = is.after_header;
      within_packet = is.within;
      within = omega arith;
    }

packet_no_fault : (order : HeaderOrder) (id : List ℕ) (p : Packet) (after : List ℕ) → IsPacket order id p → first_fault order id (p.bytes ++ after) ≡ None
unfolding first_fault
packet_no_fault order id p after is =
    ap (λ f. or_else f (cond (sizes_fit order (p.bytes ++ after)) None (Some faults.CutShort))) (Passes-none order id (p.bytes ++ after) (packet_passes order id p after is))
    ∙ ap (λ b. cond b None (Some faults.CutShort)) (HasEnds-fit order (p.bytes ++ after) _ (packet_ends order id p after is))

eighth : (m n : ℕ) → 8 * m ≡ 8 * n → m ≡ n
eighth m n e = omega arith

-- two packets at one place are one
one_packet : (order : HeaderOrder) (id : List ℕ) (p q : Packet) (s t : List ℕ) → IsPacket order id p → IsPacket order id q → p.bytes ++ s ≡ q.bytes ++ t → (p ≡ q) × (s ≡ t)
one_packet order id p q s t a b e =
    let x = same_header order p.bytes s a.has_header in
    let y = same_header order q.bytes t b.has_header in
    let len : length p.bytes ≡ length q.bytes = eighth _ _ (sym a.packet_size_is ∙ sym x.packet ∙ ap (packet_size order) e ∙ y.packet ∙ b.packet_size_is) in
    let end : a.content_end ≡ b.content_end = eighth _ _ (sym a.content_size_is ∙ sym x.content ∙ ap (content_size order) e ∙ y.content ∙ b.content_size_is) in
    let bytes : p.bytes ≡ q.bytes = sym (take_at p.bytes s (length p.bytes) refl) ∙ ap (take (length p.bytes)) e ∙ take_at q.bytes t (length p.bytes) (sym len) in
    let content : p.content ≡ q.content = a.content_is ∙ ap (λ bs. drop HEADER_LEN (take a.content_end bs)) bytes ∙ ap (λ n. drop HEADER_LEN (take n q.bytes)) end ∙ sym b.content_is in
    (packets_are p.bytes q.bytes p.content q.content bytes content, append_cancel_left q.bytes s t (ap (λ bs. bs ++ s) (sym bytes) ∙ e))
  where
    packets_are : (a b c d : List ℕ) → a ≡ b → c ≡ d → ◌≡◌ {A = Packet} (record { bytes = a; content = c }) (record { bytes = b; content = d })
    packets_are a b c d e f = cc

-- ---- packets in a row

told : (order : HeaderOrder) (id : List ℕ) → AreTold (λ (p : Packet). p.bytes) (Stands order id)
told order id = record { some = λ p after is. some_bytes p is.has_header; one = one_packet order id }
  where
    some_bytes : (p : Packet) → HEADER_LEN ≤ length p.bytes → 0 < length p.bytes
    some_bytes p h = omega arith

nothing_left : (order : HeaderOrder) (id : List ℕ) → NothingStands (λ (p : Packet). p.bytes) (Stands order id) []
nothing_left order id = nothing_at_end (λ (p : Packet). p.bytes) (Stands order id) (told order id)

-- where a check fails no packet is there
nothing_good : (order : HeaderOrder) (id rest : List ℕ) (fault : MetaFault) → first_fault order id rest ≡ Some fault → NothingStands (λ (p : Packet). p.bytes) (Stands order id) rest
nothing_good order id rest fault f p after e is = none-some fault (sym (packet_no_fault order id p after is) ∙ ap (first_fault order id) (sym e) ∙ f)

one_way : (order : HeaderOrder) (id : List ℕ) (ps qs : List Packet) (a b : List ℕ) → AllPackets order id ps a → AllPackets order id qs b → NothingStands (λ (p : Packet). p.bytes) (Stands order id) a → NothingStands (λ (p : Packet). p.bytes) (Stands order id) b → bytes_of ps ++ a ≡ bytes_of qs ++ b → (ps ≡ qs) × (a ≡ b)
one_way order id = one_row (λ (p : Packet). p.bytes) (Stands order id) (told order id)

-- ---- one text

one_joined : (order : HeaderOrder) (bytes first second : List ℕ) → IsJoined order bytes first → IsJoined order bytes second → first ≡ second
one_joined order bytes first second f s =
    let same = one_way order (uuid bytes) f.packets s.packets [] [] f.good s.good (nothing_left order (uuid bytes)) (nothing_left order (uuid bytes)) (ap (λ bs. bs ++ []) (f.whole ∙ sym s.whole)) in
    f.text_is ∙ ap contents_of same.0 ∙ sym s.text_is

text_by : (o : Option HeaderOrder) (bytes first second : List ℕ) → MatchOption o (first ≡ bytes) (λ order. IsJoined order bytes first) → MatchOption o (second ≡ bytes) (λ order. IsJoined order bytes second) → first ≡ second
text_by None bytes first second f s = f ∙ sym s
text_by (Some order) bytes first second f s = one_joined order bytes first second f s

pub one_text : (bytes first second : List ℕ) → MetaText bytes first → MetaText bytes second → first ≡ second
one_text bytes first second f s = text_by (order_of bytes) bytes first second f.text_is s.text_is

-- ---- one fault

one_broken : (order : HeaderOrder) (bytes : List ℕ) (first second : MetaFault) → IsBrokenAfter order bytes first → IsBrokenAfter order bytes second → first ≡ second
one_broken order bytes first second f s =
    let same = one_way order (uuid bytes) f.packets s.packets f.rest s.rest f.good s.good (nothing_good order (uuid bytes) f.rest first f.fails) (nothing_good order (uuid bytes) s.rest second s.fails) (f.whole ∙ sym s.whole) in
    same_Some first second (sym f.fails ∙ ap (first_fault order (uuid bytes)) same.1 ∙ s.fails)

pub one_break : (bytes : List ℕ) (first second : MetaFault) → MetaBroken bytes first → MetaBroken bytes second → first ≡ second
one_break bytes first second (inl f) (inl s) = f.1 ∙ sym s.1
one_break bytes first second (inl f) (inr s) = let a = f.0 in let b = s.0 in absurd (omega arith)
one_break bytes first second (inr f) (inl s) = let a = f.0 in let b = s.0 in absurd (omega arith)
one_break bytes first second (inr f) (inr s) =
    let order : f.1.0 ≡ s.1.0 = same_Some f.1.0 s.1.0 (sym f.1.1 ∙ s.1.1) in
    one_broken s.1.0 bytes first second (subst (λ o. IsBrokenAfter o bytes first) order f.1.2) s.1.2

-- ---- never both

joined_or_broken : (order : HeaderOrder) (bytes text : List ℕ) (fault : MetaFault) → IsJoined order bytes text → IsBrokenAfter order bytes fault → ⊥
joined_or_broken order bytes text fault f s =
    let same = one_way order (uuid bytes) f.packets s.packets [] s.rest f.good s.good (nothing_left order (uuid bytes)) (nothing_good order (uuid bytes) s.rest fault s.fails) (append-nil (bytes_of f.packets) ∙ f.whole ∙ sym s.whole) in
    s.goes_on (sym same.1)

never_by : (o : Option HeaderOrder) (bytes text : List ℕ) (fault : MetaFault) (order : HeaderOrder) → o ≡ Some order → MatchOption o (text ≡ bytes) (λ order. IsJoined order bytes text) → IsBrokenAfter order bytes fault → ⊥
never_by None bytes text fault order e f s = none-some order e
never_by (Some known) bytes text fault order e f s = joined_or_broken order bytes text fault (subst (λ o. IsJoined o bytes text) (same_Some known order e) f) s

pub never_broken : (bytes text : List ℕ) (fault : MetaFault) → MetaText bytes text → MetaBroken bytes fault → ⊥
never_broken bytes text fault f (inl s) = let a = f.short in let b = s.0 in omega arith
never_broken bytes text fault f (inr s) = never_by (order_of bytes) bytes text fault s.1.0 s.1.1 f.text_is s.1.2

-- ---- there is one

abbrev Answer : HeaderOrder → List ℕ → Type 0
Answer order bytes = ((text : List ℕ) × IsJoined order bytes text) ⊎ ((fault : MetaFault) × IsBrokenAfter order bytes fault)

-- a check fails here
abbrev Fails : HeaderOrder → List ℕ → List ℕ → Type 0
Fails order id rest = (fault : MetaFault) × (first_fault order id rest ≡ Some fault)

-- what is at the front where no check fails
packet_there : (order : HeaderOrder) (id rest : List ℕ) → first_fault order id rest ≡ None → Front (λ (p : Packet). p.bytes) (Stands order id) rest
unfolding first_fault
packet_there order id rest e =
    let parts = or_else-none (header_fault order id rest) (cond (sizes_fit order rest) None (Some faults.CutShort)) e in
    let p = header_fault-none order id rest parts.0 in
    let h = sizes_fit-parts order rest (fits_by (sizes_fit order rest) faults.CutShort parts.1) in
    let len = packet_size order rest / 8 in
    let end = content_size order rest / 8 in
    let content = take (end - HEADER_LEN) (drop HEADER_LEN rest) in
    let good = (begins_packet order id rest content (end, len) p h refl).good in
    let packet : Packet = record { bytes = take len rest; content = content } in
    record { piece = packet; after = drop len rest; whole = sym (take-append-drop len rest); stands = good; some = (told order id).some packet (drop len rest) good }

next_packet : (order : HeaderOrder) (id rest : List ℕ) → Front (λ (p : Packet). p.bytes) (Stands order id) rest ⊎ Fails order id rest
next_packet order id rest = by (first_fault order id rest) refl
  where
    by : (o : Option MetaFault) → first_fault order id rest ≡ o → Front (λ (p : Packet). p.bytes) (Stands order id) rest ⊎ Fails order id rest
    by None e = inl (packet_there order id rest e)
    by (Some fault) e = inr (fault, e)

answer : (order : HeaderOrder) (bytes : List ℕ) → Answer order bytes
answer order bytes =
    let id = uuid bytes in
    let r = row (λ (p : Packet). p.bytes) (Stands order id) (Fails order id) (λ rest some. next_packet order id rest) bytes in
    ⊎_elim
    (λ z. inl (contents_of r.pieces, record { packets = r.pieces; good = subst (AllPackets order id r.pieces) z r.stand; whole = sym (append-nil (bytes_of r.pieces)) ∙ ap (λ a. bytes_of r.pieces ++ a) (sym z) ∙ r.whole; text_is = refl }))
    (λ h. inr (h.1.0, record { packets = r.pieces; rest = r.after; good = r.stand; whole = r.whole; goes_on = h.0; fails = h.1.1 }))
    r.ends

abbrev Whole : List ℕ → Type 0
Whole bytes = ((text : List ℕ) × MetaText bytes text) ⊎ ((fault : MetaFault) × MetaBroken bytes fault)

whole_by : (bytes : List ℕ) (o : Option HeaderOrder) → order_of bytes ≡ o → length bytes ≤ MOST_BYTES → Whole bytes
whole_by bytes None e h = inl (bytes, record { short = h; text_is = subst (λ o. MatchOption o (bytes ≡ bytes) (λ order. IsJoined order bytes bytes)) (sym e) refl })
whole_by bytes (Some order) e h =
    ⊎_elim
    (λ t. inl (t.0, record { short = h; text_is = subst (λ o. MatchOption o (t.0 ≡ bytes) (λ order. IsJoined order bytes t.0)) (sym e) t.1 }))
    (λ f. inr (f.0, inr (h, (order, e, f.1))))
    (answer order bytes)

pub text_or_broken : (bytes : List ℕ) → ((text : List ℕ) × MetaText bytes text) ⊎ ((fault : MetaFault) × MetaBroken bytes fault)
text_or_broken bytes =
    ⊎_elim (λ h. inr (faults.TooLong, inl (h, refl))) (whole_by bytes (order_of bytes) refl) (cases_lt MOST_BYTES (length bytes))
