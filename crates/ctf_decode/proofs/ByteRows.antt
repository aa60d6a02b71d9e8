-- A row of plain bytes is the numbers of these bytes.
use Rattle.std.proofs.Common.{◌≡◌, ℕ, zero, suc, ◌+◌, ◌-◌, ◌*◌, ◌/◌, ◌%◌, ◌^◌, ◌<◌, ◌≤◌, false, if◌then◌else◌, cond, List, [], ◌∷◌, ◌++◌, map, take, drop, length, Ok, Err, refl, sym, ap, subst, ◌∙◌, arith, append_assoc}
use Rattle.std.specs.Prelude.{slice_index, max}
use Rattle.std.specs.Int.{next_multiple_of}
use Rattle.std.proofs.Math.Nat.{mod_self, pow-suc}
use Rattle.std.proofs.Math.Seq.{drop-cons}
use Rattle.std.proofs.lemmas.Bool.{le-ltb}
use Rattle.std.proofs.lemmas.List.{append-nil, get_or-take, get_or-drop}
use Rattle.std.proofs.lemmas.Nat.{pow_pos, div-add-mod'}
use Rattle.ctf_bits.specs.declared.number.Order.{Order}
use Rattle.ctf_bits.specs.declared.number.Order.TheVariants.{Le, Be}
use Rattle.ctf_bits.specs.Number.{number, signed_number}
use Rattle.ctf_bits.proofs.Joins.{whole_byte-le, whole_byte-be}
use Rattle.ctf_class.specs.Alignment.{IsAlignment}
use Rattle.ctf_class.specs.Integers.{bits_of}
use Rattle.ctf_class.specs.declared.integer.Integer.{Integer}
use Rattle.ctf_class.specs.declared.class.Class.{Class}
use Rattle.ctf_class.specs.declared.class.Kind as kind
use Rattle.ctf_class.specs.declared.route.Length.{Length}
use Rattle.ctf_class.proofs.AlignmentLemmas.{divides_too}
use Rattle.ctf_decode.specs.Values.{Val, unsigned, signed, list, vals_of}
use Rattle.ctf_decode.specs.Forms.{Form, integer, enumeration, string, structure, variant, array, text}
use Rattle.ctf_decode.specs.Input.{Input, Env, integer_at}
use Rattle.ctf_decode.specs.Routes.{length_of}
use Rattle.ctf_decode.specs.Breaks.{past}
use Rattle.ctf_decode.specs.Walk.{and_then, begin, open_at, leaf, repeat, as_list, walk}
use Rattle.ctf_decode.specs.Views.{form, shape}
use Rattle.ctf_decode.specs.Octets.{IsOctet, Octets}
use Rattle.ctf_decode.proofs.Arrays.{walk-array}
use Rattle.ctf_decode.proofs.Only.{begin_in, open_in}
use Rattle.ctf_decode.proofs.Views.{form-is, shape-Integer}

-- an alignment of no more than a byte divides it
pub divides_byte : (a : ℕ) → IsAlignment a → a ≤ 8 → 8 % a ≡ 0
divides_byte a power small =
    subst (λ x. 8 % x ≡ 0) (sym power.value) (divides power.exponent (omega (arith, power.value, small)))
  where
    divides : (e : ℕ) → 2 ^ e ≤ 8 → 8 % 2 ^ e ≡ 0
    divides zero h = refl
    divides (suc zero) h = refl
    divides (suc (suc zero)) h = refl
    divides (suc (suc (suc zero))) h = refl
    divides (suc (suc (suc (suc e)))) h =
        absurd (omega (arith, h, pow-suc 2 (suc (suc (suc e))), pow-suc 2 (suc (suc e)), pow-suc 2 (suc e), pow-suc 2 e, pow_pos e))

-- a byte is the same number in both orders
one_byte : (order : Order) (bytes : List ℕ) (k : ℕ) → slice_index bytes k < 256 → number order bytes (8 * k) 8 ≡ slice_index bytes k
one_byte Le bytes k below = whole_byte-le bytes k below
one_byte Be bytes k below = whole_byte-be bytes k below

-- what each of so many bytes is, each of them is in the whole
in_whole : (bytes : List ℕ) (k n : ℕ) → ((j : ℕ) → slice_index (take n (drop k bytes)) j < 256) → (j : ℕ) → k ≤ j → j < k + n → slice_index bytes j < 256
in_whole bytes k n fits j above below =
    let from : k + (j - k) ≡ j = omega arith in
    let there = get_or-take n (drop k bytes) (j - k) 0 (omega arith) ∙ get_or-drop k bytes (j - k) 0 ∙ ap (slice_index bytes) from in
    subst (λ x. x < 256) there (fits (j - k))

-- a byte is where an alignment that divides it allows
at_byte : (a k : ℕ) → 8 % a ≡ 0 → next_multiple_of (8 * k) a ≡ 8 * k
at_byte a k divides =
    let byte : 8 * k % 8 ≡ 0 = omega arith in
    let none : 8 * k % a ≡ 0 = divides_too (8 * k) 8 a byte divides in
    let whole : a - 0 ≡ a = omega arith in
    let end : 8 * k + 0 ≡ 8 * k = omega arith in
    ap (λ r. 8 * k + (a - r) % a) none ∙ ap (λ r. 8 * k + r % a) whole ∙ ap (λ r. 8 * k + r) (mod_self a) ∙ end

module _ (c : Input) (env : Env) (a : ℕ) (i : Integer) (octet : IsOctet (integer a i)) (held : c.content ≤ 8 * length c.packet) where
  byte_at : (k : ℕ) → slice_index c.packet k < 256 → integer_at c i (8 * k) ≡ unsigned (slice_index c.packet k)
  byte_at k below =
      let sign = ap (λ b. if b then signed (signed_number i.order c.packet (8 * k) (bits_of i)) else unsigned (number i.order c.packet (8 * k) (bits_of i))) octet.2 in
      sign ∙ ap (λ n. unsigned (number i.order c.packet (8 * k) n)) octet.1 ∙ ap unsigned (one_byte i.order c.packet k below)

  one_octet : (k s : ℕ) → slice_index c.packet k < 256 → 8 * (k + 1) ≤ c.content → s < c.limit → walk (integer a i) c env (8 * k) s ≡ Ok (unsigned (slice_index c.packet k), 8 * (k + 1), s + 1)
  one_octet k s below fits few =
      let placed = λ (b : ℕ). leaf c (b + bits_of i) s (integer_at c i b) in
      let opened = sym (begin_in c s (placed (next_multiple_of (8 * k) a)) few) ∙ ap placed (at_byte a k octet.0) in
      let end : 8 * k + bits_of i ≡ 8 * (k + 1) = omega (arith, octet.1) in
      let v = unsigned (slice_index c.packet k) in
      let tested = ap (λ t. cond t (Err (past (8 * (k + 1)))) (Ok (v, 8 * (k + 1), s + 1))) (le-ltb c.content (8 * (k + 1)) fits) in
      opened ∙ (λ j. leaf c (end j) s (byte_at k below j)) ∙ tested

  row : (n : ℕ) (done : List Val) (k s : ℕ) → ((j : ℕ) → k ≤ j → j < k + n → slice_index c.packet j < 256) → 8 * (k + n) ≤ c.content → s + n ≤ c.limit
      → repeat (walk (integer a i) c env) n done (8 * k) s ≡ Ok (done ++ map unsigned (take n (drop k c.packet)), 8 * (k + n), s + n)
  row zero done k s below fits few =
      let place : 8 * k ≡ 8 * (k + 0) = omega arith in
      let count : s ≡ s + 0 = omega arith in
      λ j. Ok (sym (append-nil done) j, place j, count j)
  row (suc n) done k s below fits few =
      let v = unsigned (slice_index c.packet k) in
      let rest = λ (v : Val) (q t : ℕ). repeat (walk (integer a i) c env) n (done ++ v ∷ []) q t in
      let first = ap (λ r. and_then r rest) (one_octet k s (below k (omega arith) (omega arith)) (omega (arith, fits)) (omega (arith, few))) in
      let others = row n (done ++ v ∷ []) (k + 1) (s + 1) (λ j l h. below j (omega arith) (omega arith)) (omega (arith, fits)) (omega (arith, few)) in
      let next : suc k ≡ k + 1 = omega arith in
      let opened : drop k c.packet ≡ slice_index c.packet k ∷ drop (k + 1) c.packet =
      drop-cons c.packet k 0 (omega (arith, fits, held)) ∙ ap (λ m. slice_index c.packet k ∷ drop m c.packet) next in
      let all : (done ++ v ∷ []) ++ map unsigned (take n (drop (k + 1) c.packet)) ≡ done ++ map unsigned (take (suc n) (drop k c.packet)) =
      append_assoc done (v ∷ []) (map unsigned (take n (drop (k + 1) c.packet))) ∙ ap (λ bs. done ++ map unsigned (take (suc n) bs)) (sym opened) in
      let place : 8 * (k + 1 + n) ≡ 8 * (k + suc n) = omega arith in
      let count : s + 1 + n ≡ s + suc n = omega arith in
      first ∙ others ∙ (λ j. Ok (all j, place j, count j))

-- so many bytes from a place on
abbrev pub bytes_of : Input → ℕ → ℕ → List ℕ
bytes_of c p n = take n (drop (p / 8) c.packet)

module _ (c : Input) (env : Env) (held : c.content ≤ 8 * length c.packet) where
  -- so many bytes are what is decoded as an array of so many elements
  pub octets_are : (k : Form) (n p s : ℕ) → ((j : ℕ) → slice_index (bytes_of c p n) j < 256) → Octets k n c p s
      → Ok (list (vals_of (map unsigned (bytes_of c p n))), p + 8 * n, s + n) ≡ and_then (repeat (walk k c env) n [] p s) as_list
  octets_are (integer a i) n p s fits are =
      let below = in_whole c.packet (p / 8) n fits in
      let place : 8 * (p / 8) ≡ p = omega (arith, are.whole) in
      let end : 8 * (p / 8 + n) ≡ p + 8 * n = omega (arith, are.whole) in
      let found = row c env a i are.octet held n [] (p / 8) s below (omega (arith, are.whole, are.within)) are.few in
      let there = ap (λ q. and_then (repeat (walk (integer a i) c env) n [] q s) as_list) (sym place) ∙ ap (λ r. and_then r as_list) found in
      sym (there ∙ ap (λ q. Ok (list (vals_of (map unsigned (bytes_of c p n))), q, s + n)) end)
  octets_are (enumeration a i) n p s fits are = absurd are.octet
  octets_are (string a) n p s fits are = absurd are.octet
  octets_are (structure a ps) n p s fits are = absurd are.octet
  octets_are (variant a tag choices ps) n p s fits are = absurd are.octet
  octets_are (array a many k) n p s fits are = absurd are.octet
  octets_are (text a many) n p s fits are = absurd are.octet

-- an array that begins in the content is its elements
pub array_opened : (c : Input) (k : Form) (env : Env) (n p b s : ℕ) → b ≡ p → s < c.limit → b ≤ c.content
    → and_then (repeat (walk k c env) n [] b (s + 1)) as_list ≡ begin c s (open_at c p (and_then (repeat (walk k c env) n [] p (s + 1)) as_list))
array_opened c k env n p b s same few opens =
    let elements = λ (q : ℕ). and_then (repeat (walk k c env) n [] q (s + 1)) as_list in
    open_in c b (elements b) opens ∙ begin_in c s (open_at c b (elements b)) few ∙ ap (λ q. begin c s (open_at c q (elements q))) same

-- a class of which the code asks whether it is a byte
pub octet_is : (class : Class) (i : Integer) → class.kind ≡ kind.Integer i → IsAlignment class.align → class.align ≤ 8 → i.size ≡ 8 → i.is_signed ≡ false → IsOctet (form class)
octet_is class i is power small size sign =
    let whole = form-is class ∙ ap (λ k. shape k class.align) is ∙ shape-Integer i class.align in
    subst IsOctet (sym whole) (divides_byte class.align power small, ap (λ n. max 1 n) size, sign)

-- what divides a byte is no more than a byte
no_more : (q a : ℕ) → q * a ≡ 8 → a ≤ 8
no_more zero a e = absurd (omega (arith, e))
no_more (suc q) a e = omega (arith, e)

-- the alignment of a class that is a byte
pub octet_small : (class : Class) (i : Integer) → class.kind ≡ kind.Integer i → IsOctet (form class) → class.align ≤ 8
octet_small class i is octet =
    let whole = form-is class ∙ ap (λ k. shape k class.align) is ∙ shape-Integer i class.align in
    let divides = subst IsOctet whole octet in
    no_more (8 / class.align) class.align (omega (arith, div-add-mod' 8 class.align, divides.0))

-- elements that are bytes see no field
pub octets_alone : (c : Input) (k : Form) (around other : Env) (n : ℕ) (done : List Val) (p s : ℕ) → IsOctet k → repeat (walk k c around) n done p s ≡ repeat (walk k c other) n done p s
octets_alone c (integer a i) around other n done p s is = refl
octets_alone c (enumeration a i) around other n done p s is = absurd is
octets_alone c (string a) around other n done p s is = absurd is
octets_alone c (structure a ps) around other n done p s is = absurd is
octets_alone c (variant a tag choices ps) around other n done p s is = absurd is
octets_alone c (array a many k) around other n done p s is = absurd is
octets_alone c (text a many) around other n done p s is = absurd is

-- so an array of bytes is decoded as if no field were before it, once their number is known
pub walk-octets : (c : Input) (around other : Env) (n p s : ℕ) (class element : Class) (many : Length) → class.kind ≡ kind.Array many element → n ≡ length_of many c.earlier around → IsOctet (form element)
    → begin c s (open_at c (next_multiple_of p element.align) (and_then (repeat (walk (form element) c other) n [] (next_multiple_of p element.align) (s + 1)) as_list)) ≡ walk (form class) c around p s
walk-octets c around other n p s class element many is count octet =
    let b = next_multiple_of p element.align in
    let same = octets_alone c (form element) other around n [] b (s + 1) octet ∙ ap (λ m. repeat (walk (form element) c around) m [] b (s + 1)) count in
    ap (λ r. begin c s (open_at c b (and_then r as_list))) same ∙ walk-array c around p s class element many is
