-- Packets at the front of bytes.
use Rattle.std.proofs.Common.{◌≡◌, ℕ, ◌+◌, ◌-◌, ◌*◌, ◌/◌, ◌%◌, ◌<◌, ◌≤◌, Bool, true, false, cond, not, ◌&&◌, List, [], ◌∷◌, ◌++◌, length, take, drop, get_or, Option, Some, None, refl, sym, ap, subst, ◌∙◌, arith, eqb, ltb, take-add}
use Rattle.std.proofs.lemmas.Bool.{eqb-true, ltb-false, leb-true, and_parts, and_from, not-false, false_from_ne_true, le-leb, le-ltb, lt-ltb, eq-eqb}
use Rattle.std.proofs.lemmas.List.{take-append-le, drop-append-le, get_or_append_left, length-drop, length-take-le, take-append-drop, take-take, take_all, drop-take, drop-drop, drop_all}
use Rattle.std.proofs.lemmas.Slice.Eq.{bytes_eq-Decides}
use Rattle.ctf_list.proofs.Row.{AllStand-push, flat_map-push}
use Rattle.tsdl_text.specs.declared.packet.TheConstants.{HEADER_LEN}
use Rattle.tsdl_text.specs.declared.packet.HeaderOrder.{HeaderOrder}
use Rattle.tsdl_text.specs.declared.fault.MetaFault.{MetaFault}
use Rattle.tsdl_text.specs.declared.fault.MetaFault.TheVariants as faults
use Rattle.tsdl_text.specs.PacketReading.{HasEnds, BeginsPacket, JoinRefused}
use Rattle.tsdl_text.specs.Packets.{Stands, magic, word, uuid, content_size, packet_size, is_plain, is_version_1_8, sizes_fit, or_else, header_fault, first_fault, IsJoined, IsBrokenAfter, order_of, Packet, AllPackets, bytes_of, contents_of}

-- ---- the checks, one by one

step : (b : Bool) (f : MetaFault) (o : Option MetaFault) → cond b (Some f) o ≡ None → (b ≡ false) × (o ≡ None)
step true f o e = absurd cc
step false f o e = (refl, e)

pass : (b : Bool) (f : MetaFault) (o : Option MetaFault) → b ≡ true → o ≡ None → cond (not b) (Some f) o ≡ None
pass true f o e h = h
pass false f o e h = absurd cc

pub or_else-none : (a b : Option MetaFault) → or_else a b ≡ None → (a ≡ None) × (b ≡ None)
or_else-none None b e = (refl, e)
or_else-none (Some f) b e = absurd cc

pub fits_by : (b : Bool) (f : MetaFault) → cond b None (Some f) ≡ None → b ≡ true
fits_by true f e = refl
fits_by false f e = absurd cc

pub sizes_fit-parts : (order : HeaderOrder) (rest : List ℕ) → sizes_fit order rest ≡ true → HasEnds order rest (content_size order rest / 8, packet_size order rest / 8)
unfolding sizes_fit
sizes_fit-parts order rest e =
    let a = and_parts _ _ e in
    let b = and_parts _ _ a.1 in
    let c = and_parts _ _ b.1 in
    let d = and_parts _ _ c.1 in
    let cw = eqb-true _ _ a.0 in
    let pw = eqb-true _ _ b.0 in
    let within = leb-true _ _ d.0 in
    record {
      content_is = eighths _ cw;
      packet_is = eighths _ pw;
      after_header = leb-true _ _ c.0;
      within_packet = divided _ _ within;
      within = leb-true _ _ d.1;
    }
  where
    eighths : (n : ℕ) → n % 8 ≡ 0 → n ≡ 8 * (n / 8)
    eighths n h = omega arith

    divided : (m n : ℕ) → m ≤ n → m / 8 ≤ n / 8
    divided m n h = omega arith

pub HasEnds-fit : (order : HeaderOrder) (rest : List ℕ) (ends : ℕ × ℕ) → HasEnds order rest ends → sizes_fit order rest ≡ true
unfolding sizes_fit
HasEnds-fit order rest ends h =
    let ci = h.content_is in
    let pi = h.packet_is in
    let low = h.after_header in
    let mid = h.within_packet in
    let high = h.within in
    and_from _ _ (eq-eqb _ _ (whole _ _ ci)) (and_from _ _ (eq-eqb _ _ (whole _ _ pi)) (and_from _ _ (le-leb _ _ (least _ _ ci low)) (and_from _ _ (le-leb _ _ (scaled _ _ _ _ ci pi mid)) (le-leb _ _ (most _ _ _ pi high)))))
  where
    whole : (n m : ℕ) → n ≡ 8 * m → n % 8 ≡ 0
    whole n m h = omega arith

    least : (n m : ℕ) → n ≡ 8 * m → HEADER_LEN ≤ m → HEADER_LEN ≤ n / 8
    least n m h k = omega arith

    scaled : (a b m n : ℕ) → a ≡ 8 * m → b ≡ 8 * n → m ≤ n → a ≤ b
    scaled a b m n p q h = omega arith

    most : (a n l : ℕ) → a ≡ 8 * n → n ≤ l → a / 8 ≤ l
    most a n l p h = omega arith

-- sizes that are whole bytes, in order, are where the parts end; others do not fit
pub has_ends : (order : HeaderOrder) (rest : List ℕ) (cs ps : ℕ) → cs ≡ content_size order rest → ps ≡ packet_size order rest → cs % 8 ≡ 0 → ps % 8 ≡ 0 → HEADER_LEN ≤ cs / 8 → cs / 8 ≤ ps / 8 → ps / 8 ≤ length rest → HasEnds order rest (cs / 8, ps / 8)
has_ends order rest cs ps c p cw pw low mid high = record { content_is = sym c ∙ eighths cs cw; packet_is = sym p ∙ eighths ps pw; after_header = low; within_packet = mid; within = high }
  where
    eighths : (n : ℕ) → n % 8 ≡ 0 → n ≡ 8 * (n / 8)
    eighths n h = omega arith

pub no_ends : (order : HeaderOrder) (rest : List ℕ) (cs ps : ℕ) → cs ≡ content_size order rest → ps ≡ packet_size order rest → ((cs % 8 ≡ 0) → (ps % 8 ≡ 0) → HEADER_LEN ≤ cs / 8 → cs / 8 ≤ ps / 8 → ps / 8 ≤ length rest → ⊥) → sizes_fit order rest ≡ false
no_ends order rest cs ps c p none =
    false_from_ne_true _ (λ fit.
    let h = sizes_fit-parts order rest fit in
    none (whole cs (cs / 8) (c ∙ h.content_is ∙ ap (λ n. 8 * (n / 8)) (sym c))) (whole ps (ps / 8) (p ∙ h.packet_is ∙ ap (λ n. 8 * (n / 8)) (sym p)))
    (subst (λ n. HEADER_LEN ≤ n / 8) (sym c) h.after_header)
    (subst (λ n. n / 8 ≤ ps / 8) (sym c) (subst (λ n. content_size order rest / 8 ≤ n / 8) (sym p) h.within_packet))
    (subst (λ n. n / 8 ≤ length rest) (sym p) h.within))
  where
    whole : (n m : ℕ) → n ≡ 8 * m → n % 8 ≡ 0
    whole n m h = omega arith

-- a header that passes every check but for the sizes
pub record Passes (order : HeaderOrder) (id rest : List ℕ) : Type 0 where
  pub has_header : HEADER_LEN ≤ length rest
  pub has_magic : take 4 rest ≡ magic order
  pub plain : is_plain rest ≡ true
  pub version : is_version_1_8 rest ≡ true
  pub same_uuid : uuid rest ≡ id

pub header_fault-none : (order : HeaderOrder) (id rest : List ℕ) → header_fault order id rest ≡ None → Passes order id rest
unfolding header_fault
header_fault-none order id rest e =
    let a = step _ _ _ e in
    let b = step _ _ _ a.1 in
    let c = step _ _ _ b.1 in
    let d = step _ _ _ c.1 in
    let f = step _ _ _ d.1 in
    record {
      has_header = ltb-false _ _ a.0;
      has_magic = (bytes_eq-Decides (take 4 rest) (magic order)).0 (not-false _ b.0);
      plain = not-false _ c.0;
      version = not-false _ d.0;
      same_uuid = (bytes_eq-Decides (uuid rest) id).0 (not-false _ f.0);
    }

pub Passes-none : (order : HeaderOrder) (id rest : List ℕ) → Passes order id rest → header_fault order id rest ≡ None
unfolding header_fault
Passes-none order id rest p =
    let short : ltb (length rest) HEADER_LEN ≡ false = le-ltb _ _ p.has_header in
    rw short
    (pass _ _ _ ((bytes_eq-Decides (take 4 rest) (magic order)).1 p.has_magic)
    (pass _ _ _ p.plain
    (pass _ _ _ p.version
    (pass _ _ _ ((bytes_eq-Decides (uuid rest) id).1 p.same_uuid) refl))))

-- ---- a header does not depend on what follows it

pub record SameHeader (order : HeaderOrder) (xs ys : List ℕ) : Type 0 where
  pub front : take 4 xs ≡ take 4 ys
  pub id : uuid xs ≡ uuid ys
  pub plain : is_plain xs ≡ is_plain ys
  pub version : is_version_1_8 xs ≡ is_version_1_8 ys
  pub content : content_size order xs ≡ content_size order ys
  pub packet : packet_size order xs ≡ packet_size order ys

size-front : (order : HeaderOrder) (n : ℕ) (xs after : List ℕ) → n + 4 ≤ length xs → word order (take 4 (drop n (xs ++ after))) ≡ word order (take 4 (drop n xs))
size-front order n xs after h =
    let l = length-drop n xs in
    ap (λ ys. word order (take 4 ys)) (drop-append-le n xs after (omega arith)) ∙ ap (word order) (take-append-le 4 (drop n xs) after (omega arith))

pub same_header : (order : HeaderOrder) (xs after : List ℕ) → HEADER_LEN ≤ length xs → SameHeader order (xs ++ after) xs
same_header order xs after h =
    let l = length-drop 4 xs in
    let g : (i : ℕ) → i < HEADER_LEN → get_or (xs ++ after) i 0 ≡ get_or xs i 0 = λ i k. get_or_append_left xs after 0 i (omega arith) in
    record {
      front = take-append-le 4 xs after (omega arith);
      id = ap (take 16) (drop-append-le 4 xs after (omega arith)) ∙ take-append-le 16 (drop 4 xs) after (omega arith);
      plain = plain_by _ _ _ _ _ _ (g 32 (omega arith)) (g 33 (omega arith)) (g 34 (omega arith));
      version = version_by _ _ _ _ (g 35 (omega arith)) (g 36 (omega arith));
      content = size-front order 24 xs after (omega arith);
      packet = size-front order 28 xs after (omega arith);
    }
  where
    plain_by : (a b c d e f : ℕ) → a ≡ d → b ≡ e → c ≡ f → (eqb a 0 && (eqb b 0 && eqb c 0)) ≡ (eqb d 0 && (eqb e 0 && eqb f 0))
    plain_by a b c d e f p q r = cc

    version_by : (a b c d : ℕ) → a ≡ c → b ≡ d → (eqb a 1 && eqb b 8) ≡ (eqb c 1 && eqb d 8)
    version_by a b c d p q = cc

-- ---- a packet at the front

-- a header that passes every check begins a packet
pub begins_packet : (order : HeaderOrder) (id rest content : List ℕ) (ends : ℕ × ℕ) → Passes order id rest → HasEnds order rest ends → content ≡ take (ends.0 - HEADER_LEN) (drop HEADER_LEN rest) → BeginsPacket order id rest content ends.1
begins_packet order id rest content ends p h is =
    let n = ends.1 in
    let c = ends.0 in
    let after = h.after_header in
    let c_is : c ≡ HEADER_LEN + (c - HEADER_LEN) = omega arith in
    let cut : drop HEADER_LEN (take c rest) ≡ take (c - HEADER_LEN) (drop HEADER_LEN rest) = ap (λ k. drop HEADER_LEN (take k rest)) c_is ∙ drop-take HEADER_LEN (c - HEADER_LEN) rest in
    let front = take n rest in
    let l : length front ≡ n = length-take-le n rest h.within in
    let low = h.after_header in
    let high = h.within_packet in
    let long : HEADER_LEN ≤ length front = omega arith in
    let same = subst (λ xs. SameHeader order xs front) (take-append-drop n rest) (same_header order front (drop n rest) long) in
    record {
      good = record {
        has_header = long;
        has_magic = sym same.front ∙ p.has_magic;
        plain = sym same.plain ∙ p.plain;
        version = sym same.version ∙ p.version;
        same_uuid = sym same.id ∙ p.same_uuid;
        packet_size_is = sym same.packet ∙ h.packet_is ∙ ap (λ k. 8 * k) (sym l);
        content_end = c;
        content_size_is = sym same.content ∙ h.content_is;
        after_header = low;
        within = omega arith;
        content_is = is ∙ sym cut ∙ ap (drop HEADER_LEN) (sym (take-take c n rest high));
      };
      within = h.within;
    }

-- the packets up to a place, and the text so far
pub record JoinedSoFar (order : HeaderOrder) (bytes : List ℕ) (start : ℕ) (text : List ℕ) : Type 0 where
  pub packets : List Packet
  pub good : AllPackets order (uuid bytes) packets (drop start bytes)
  pub front : bytes_of packets ≡ take start bytes
  pub text_is : text ≡ contents_of packets

-- what a refusal of a packet says
pub faulty_header : (order : HeaderOrder) (id rest : List ℕ) (fault : MetaFault) → Some fault ≡ header_fault order id rest → first_fault order id rest ≡ Some fault
unfolding first_fault
faulty_header order id rest fault e = ap (λ f. or_else f (cond (sizes_fit order rest) None (Some faults.CutShort))) (sym e)

pub faulty_sizes : (order : HeaderOrder) (id rest : List ℕ) → header_fault order id rest ≡ None → sizes_fit order rest ≡ false → first_fault order id rest ≡ Some faults.CutShort
unfolding first_fault
faulty_sizes order id rest e s = ap (λ f. or_else f (cond (sizes_fit order rest) None (Some faults.CutShort))) e ∙ ap (λ b. cond b None (Some faults.CutShort)) s

-- fewer bytes than a header has
short_header : (order : HeaderOrder) (id rest : List ℕ) → length rest < HEADER_LEN → Some faults.CutShort ≡ header_fault order id rest
unfolding header_fault
short_header order id rest h = let e : ltb (length rest) HEADER_LEN ≡ true = lt-ltb _ _ h in rw e refl

pub faulty_front : (order : HeaderOrder) (id rest : List ℕ) → length rest < HEADER_LEN → first_fault order id rest ≡ Some faults.CutShort
faulty_front order id rest h = faulty_header order id rest faults.CutShort (short_header order id rest h)

-- the text of no packets
pub joined_none : (order : HeaderOrder) (bytes : List ℕ) → JoinedSoFar order bytes 0 []
joined_none order bytes = record { packets = []; good = tt; front = refl; text_is = refl }

-- the text of one more packet
pub joined_more : (order : HeaderOrder) (bytes content text text' : List ℕ) (start len : ℕ) → BeginsPacket order (uuid bytes) (drop start bytes) content len → text' ≡ text ++ content → JoinedSoFar order bytes start text → JoinedSoFar order bytes (start + len) text'
joined_more order bytes content text text' start len found is so_far =
    let rest = drop start bytes in
    let packet : Packet = record { bytes = take len rest; content = content } in
    let whole : rest ≡ take len rest ++ drop (start + len) bytes = sym (take-append-drop len rest) ∙ ap (λ bs. take len rest ++ bs) (drop-drop len start bytes) in
    record {
      packets = so_far.packets ++ packet ∷ [];
      good = AllStand-push (λ (p : Packet). p.bytes) (Stands order (uuid bytes)) so_far.packets packet (drop (start + len) bytes) (subst (AllPackets order (uuid bytes) so_far.packets) whole so_far.good) found.good;
      front = flat_map-push (λ (p : Packet). p.bytes) so_far.packets packet ∙ ap (λ bs. bs ++ take len (drop start bytes)) so_far.front ∙ sym (take-add start len bytes);
      text_is = is ∙ ap (λ bs. bs ++ content) so_far.text_is ∙ sym (flat_map-push (λ (p : Packet). p.content) so_far.packets packet);
    }

-- the text of all packets
pub joined_all : (order : HeaderOrder) (bytes text : List ℕ) (start : ℕ) → length bytes ≤ start → JoinedSoFar order bytes start text → IsJoined order bytes text
joined_all order bytes text start h so_far =
    record { packets = so_far.packets; good = subst (AllPackets order (uuid bytes) so_far.packets) (drop_all start bytes h) so_far.good; whole = so_far.front ∙ take_all start bytes h; text_is = so_far.text_is }

-- a packet is not good
pub broken_after : (order : HeaderOrder) (bytes text : List ℕ) (start : ℕ) (fault : MetaFault) → start < length bytes → first_fault order (uuid bytes) (drop start bytes) ≡ Some fault → JoinedSoFar order bytes start text → IsBrokenAfter order bytes fault
broken_after order bytes text start fault h e so_far =
    let l = length-drop start bytes in
    record {
      packets = so_far.packets;
      rest = drop start bytes;
      good = so_far.good;
      whole = ap (λ bs. bs ++ drop start bytes) so_far.front ∙ take-append-drop start bytes;
      goes_on = λ z. absurd (omega (arith, ap length z));
      fails = e;
    }

-- ---- no check reports S1

never : (b : Bool) (f : MetaFault) (o : Option MetaFault) (line : ℕ) → (f ≡ faults.NoToken line → ⊥) → (o ≡ Some (faults.NoToken line) → ⊥) → cond b (Some f) o ≡ Some (faults.NoToken line) → ⊥
never true f o line differs rest e = differs cc
never false f o line differs rest e = rest e

header_never : (order : HeaderOrder) (id rest : List ℕ) (line : ℕ) → header_fault order id rest ≡ Some (faults.NoToken line) → ⊥
unfolding header_fault
header_never order id rest line e =
    never _ faults.CutShort _ line (λ h. cc)
    (never _ faults.WrongMagic _ line (λ h. cc)
    (never _ faults.SchemeUnsupported _ line (λ h. cc)
    (never _ faults.WrongVersion _ line (λ h. cc)
    (never _ faults.UuidDiffers None line (λ h. cc) (λ h. cc))))) e

or_else_never : (a b : Option MetaFault) (line : ℕ) → (a ≡ Some (faults.NoToken line) → ⊥) → (b ≡ Some (faults.NoToken line) → ⊥) → or_else a b ≡ Some (faults.NoToken line) → ⊥
or_else_never None b line first second e = second e
or_else_never (Some f) b line first second e = first e

sizes_never : (b : Bool) (line : ℕ) → cond b None (Some faults.CutShort) ≡ Some (faults.NoToken line) → ⊥
sizes_never true line e = absurd cc
sizes_never false line e = absurd cc

first_never : (order : HeaderOrder) (id rest : List ℕ) (line : ℕ) → first_fault order id rest ≡ Some (faults.NoToken line) → ⊥
unfolding first_fault
first_never order id rest line e = or_else_never (header_fault order id rest) _ line (header_never order id rest line) (sizes_never (sizes_fit order rest) line) e

-- what a check reports is a refusal
pub refused_by : (order : HeaderOrder) (bytes rest : List ℕ) (fault : MetaFault) → first_fault order (uuid bytes) rest ≡ Some fault → IsBrokenAfter order bytes fault → JoinRefused order bytes fault
refused_by order bytes rest faults.CutShort e broken = broken
refused_by order bytes rest faults.WrongMagic e broken = broken
refused_by order bytes rest faults.SchemeUnsupported e broken = broken
refused_by order bytes rest faults.WrongVersion e broken = broken
refused_by order bytes rest faults.UuidDiffers e broken = broken
refused_by order bytes rest faults.TooLong e broken = broken
refused_by order bytes rest faults.NoMemory e broken = tt
refused_by order bytes rest (faults.NoToken line) e broken = first_never order (uuid bytes) rest line e

-- bytes that begin with a magic are some
pub order_of-some : (bytes : List ℕ) (order : HeaderOrder) → order_of bytes ≡ Some order → 0 < length bytes
unfolding order_of
order_of-some [] order e = absurd cc
order_of-some (b ∷ bytes) order e = omega arith
