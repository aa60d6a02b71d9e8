-- Packet contexts and lines, part by part.
use Rattle.std.proofs.Common.{◌≡◌, ℕ, zero, suc, ◌+◌, ◌<◌, ◌≤◌, Bool, true, false, cond, List, [], ◌∷◌, ◌++◌, map, drop, length, get_or, refl, sym, ap, ◌∙◌, arith, append_assoc, append-nil}
use Rattle.std.specs.List.{flat_map, prefix_len}
use Rattle.std.proofs.lemmas.Grind.{flat_map-append}
use Rattle.ctf_class.specs.declared.class.Member.{Member}
use Rattle.ctf_class.specs.Fronts.{are_of_packet, is_of_packet}
use Rattle.ctf_decode.specs.declared.value.Value.{Value}
use Rattle.ctf_decode.specs.Values.{vals_of, no_vals}
use Rattle.ctf_decode.specs.Views.{val}
use Rattle.ctf_format.specs.Rows.{row, joined}
use Rattle.ctf_format.specs.Texts.{part_text, member_part}
use Rattle.ctf_format.specs.Lines.{shown_members, context_text}
use Rattle.ctf_format.proofs.NamesLemmas.{here, drop-all}

abbrev shown_of : List Member → List Value → List (List ℕ)
shown_of ms vs = shown_members ms (vals_of (map val vs))

none_shown : (ms : List Member) → shown_members ms no_vals ≡ []
none_shown [] = refl
none_shown (m ∷ ms) = refl

pub shown_end : (ms : List Member) (vs : List Value) (i : ℕ) → length vs ≤ i → shown_of (drop i ms) (drop i vs) ≡ []
shown_end ms vs i past = ap (shown_of (drop i ms)) (drop-all vs i past) ∙ none_shown (drop i ms)

-- past the last member, and past the last value, none is shown
pub shown_past : (ms : List Member) (vs : List Value) (i : ℕ) → (i < length ms → i < length vs → ⊥) → shown_of (drop i ms) (drop i vs) ≡ []
shown_past [] vs i past = ap (λ left. shown_of left (drop i vs)) (drop-all [] i (omega arith))
shown_past (m ∷ ms) [] i past = shown_end (m ∷ ms) [] i (omega arith)
shown_past (m ∷ ms) (v ∷ vs) zero past = absurd (past (omega arith) (omega arith))
shown_past (m ∷ ms) (v ∷ vs) (suc i) past = shown_past ms vs i (λ a b. past (omega arith) (omega arith))

-- how many members are before the first one that is shown
abbrev first_shown : List Member → ℕ
first_shown ms = prefix_len (λ hidden. hidden) (are_of_packet ms)

first_passed : (ms : List Member) (vs : List Value) (m : Member) (v : Value) (b : Bool) → is_of_packet m.name ≡ b → shown_of (drop (first_shown ms) ms) (drop (first_shown ms) vs) ≡ shown_of ms vs
    → shown_of (drop (cond b (1 + first_shown ms) 0) (m ∷ ms)) (drop (cond b (1 + first_shown ms) 0) (v ∷ vs)) ≡ shown_of (m ∷ ms) (v ∷ vs)
first_passed ms vs m v true is later =
    let next : 1 + first_shown ms ≡ suc (first_shown ms) = omega arith in
    ap (λ i. shown_of (drop i (m ∷ ms)) (drop i (v ∷ vs))) next ∙ later ∙ sym (ap (λ c. cond c (shown_of ms vs) (part_text (member_part m) (val v) ∷ shown_of ms vs)) is)
first_passed ms vs m v false is later = refl

pub shown_from : (ms : List Member) (vs : List Value) → shown_of (drop (prefix_len (λ hidden. hidden) (are_of_packet ms)) ms) (drop (prefix_len (λ hidden. hidden) (are_of_packet ms)) vs) ≡ shown_of ms vs
shown_from [] vs = refl
shown_from (m ∷ ms) [] = shown_end (m ∷ ms) [] (first_shown (m ∷ ms)) (omega arith)
shown_from (m ∷ ms) (v ∷ vs) = first_passed ms vs m v (is_of_packet m.name) refl (shown_from ms vs)

next : (ms : List Member) (vs : List Value) (i : ℕ) (m : Member) (v : Value) (b : Bool) → i < length ms → i < length vs → m ≡ get_or ms i m → v ≡ get_or vs i v → is_of_packet m.name ≡ b
    → shown_of (drop i ms) (drop i vs) ≡ cond b (shown_of (drop (i + 1) ms) (drop (i + 1) vs)) (part_text (member_part m) (val v) ∷ shown_of (drop (i + 1) ms) (drop (i + 1) vs))
next ms vs i m v b in_ms in_vs m_is v_is is =
    let rest = shown_of (drop (i + 1) ms) (drop (i + 1) vs) in
    (λ j. shown_of (here ms i m in_ms m_is j) (here vs i v in_vs v_is j)) ∙ ap (λ c. cond c rest (part_text (member_part m) (val v) ∷ rest)) is

item : {A : Type 0} (xs : List A) (i : ℕ) → i < length xs → (x : A) × (x ≡ get_or xs i x)
item [] i within = absurd (omega arith)
item (x ∷ xs) zero within = (x, refl)
item (x ∷ xs) (suc i) within = item xs i (omega arith)

-- another one is not
pub shown_same : (ms : List Member) (vs : List Value) (i : ℕ) (m : Member) (line before : List ℕ) (lead mark : ℕ) (all : List (List ℕ)) → i < length ms → i < length vs → m ≡ get_or ms i m → is_of_packet m.name ≡ true
    → line ++ row lead (shown_of (drop i ms) (drop i vs)) ≡ before ++ row mark all → line ++ row lead (shown_of (drop (i + 1) ms) (drop (i + 1) vs)) ≡ before ++ row mark all
shown_same ms vs i m line before lead mark all in_ms in_vs m_is is already =
    let v = item vs i in_vs in
    ap (λ texts. line ++ row lead texts) (sym (next ms vs i m v.0 true in_ms in_vs m_is v.1 is)) ∙ already

-- the member at an index, which is hidden
hidden_at : (ms : List Member) (i : ℕ) (m : Member) → i < length ms → m ≡ get_or ms i m → get_or (are_of_packet ms) i false ≡ true → is_of_packet m.name ≡ true
hidden_at [] i m within is known = absurd (omega arith)
hidden_at (n ∷ ms) zero m within is known = ap (λ (member : Member). is_of_packet member.name) is ∙ known
hidden_at (n ∷ ms) (suc i) m within is known = hidden_at ms i m (omega arith) is known

pub hidden_same : (ms : List Member) (vs : List Value) (i : ℕ) (line before : List ℕ) (lead mark : ℕ) (all : List (List ℕ)) → i < length ms → i < length vs → get_or (are_of_packet ms) i false ≡ true
    → line ++ row lead (shown_of (drop i ms) (drop i vs)) ≡ before ++ row mark all → line ++ row lead (shown_of (drop (i + 1) ms) (drop (i + 1) vs)) ≡ before ++ row mark all
hidden_same ms vs i line before lead mark all in_ms in_vs hidden already =
    let m = item ms i in_ms in
    shown_same ms vs i m.0 line before lead mark all in_ms in_vs m.1 (hidden_at ms i m.0 in_ms m.1 hidden) already

-- all that are shown were written
pub shown_all : (ms : List Member) (vs : List Value) (i : ℕ) (line before : List ℕ) (lead mark : ℕ) (all : List (List ℕ)) → (i < length ms → i < length vs → ⊥) → line ++ row lead (shown_of (drop i ms) (drop i vs)) ≡ before ++ row mark all → line ≡ before ++ row mark all
shown_all ms vs i line before lead mark all past already =
    sym (append-nil line) ∙ ap (λ texts. line ++ row lead texts) (sym (shown_past ms vs i past)) ∙ already

-- one of which something was written
pub context_some : (texts : List (List ℕ)) (line before : List ℕ) → (length line ≡ length before → ⊥) → line ≡ before ++ row 123 texts → line ++ (32 ∷ 125 ∷ []) ≡ before ++ context_text texts
context_some [] line before other wrote = absurd (other (ap length (wrote ∙ append-nil before)))
context_some (text ∷ texts) line before other wrote =
    ap (λ xs. xs ++ (32 ∷ 125 ∷ [])) wrote ∙ append_assoc before (row 123 (text ∷ texts)) (32 ∷ 125 ∷ [])

-- texts, each with a comma after it, and a last one
abbrev pub followed : List ℕ → List ℕ
followed text = text ++ (44 ∷ 32 ∷ [])

row_joined : (texts : List (List ℕ)) (last : List ℕ) → row 44 (texts ++ last ∷ []) ≡ 44 ∷ 32 ∷ joined (texts ++ last ∷ [])
row_joined [] last = refl
row_joined (text ∷ texts) last = refl

pub joined_last : (texts : List (List ℕ)) (last : List ℕ) → joined (texts ++ last ∷ []) ≡ flat_map followed texts ++ last
joined_last [] last = append-nil last
joined_last (text ∷ texts) last =
    ap (λ xs. text ++ xs) (row_joined texts last ∙ ap (λ xs. 44 ∷ 32 ∷ xs) (joined_last texts last))
    ∙ sym (append_assoc text (44 ∷ 32 ∷ []) (flat_map followed texts ++ last))
    ∙ sym (append_assoc (followed text) (flat_map followed texts) last)

-- a heading and scopes, of which each but the last has a comma after it
pub record_chain : (old heading last first second third fourth : List ℕ) (packet shared own : List (List ℕ)) → first ≡ old ++ heading → second ≡ first ++ flat_map followed packet → third ≡ second ++ flat_map followed shared → fourth ≡ third ++ flat_map followed own
    → fourth ++ last ≡ old ++ (heading ++ joined (packet ++ (shared ++ (own ++ last ∷ []))))
record_chain old heading last first second third fourth packet shared own wrote_first wrote_second wrote_third wrote_fourth =
    let p = flat_map followed packet in
    let s = flat_map followed shared in
    let o = flat_map followed own in
    let all : fourth ≡ (((old ++ heading) ++ p) ++ s) ++ o =
    wrote_fourth ∙ ap (λ xs. xs ++ o) (wrote_third ∙ ap (λ xs. xs ++ s) (wrote_second ∙ ap (λ xs. xs ++ p) wrote_first))
    in
    let texts : packet ++ (shared ++ (own ++ last ∷ [])) ≡ (packet ++ (shared ++ own)) ++ last ∷ [] =
    ap (λ xs. packet ++ xs) (sym (append_assoc shared own (last ∷ []))) ∙ sym (append_assoc packet (shared ++ own) (last ∷ []))
    in
    let parts : flat_map followed (packet ++ (shared ++ own)) ≡ p ++ (s ++ o) =
    flat_map-append followed packet (shared ++ own) ∙ ap (λ xs. p ++ xs) (flat_map-append followed shared own)
    in
    let line : joined (packet ++ (shared ++ (own ++ last ∷ []))) ≡ (p ++ (s ++ o)) ++ last =
    ap joined texts ∙ joined_last (packet ++ (shared ++ own)) last ∙ ap (λ xs. xs ++ last) parts
    in
    let grouped : ((((old ++ heading) ++ p) ++ s) ++ o) ++ last ≡ old ++ (heading ++ ((p ++ (s ++ o)) ++ last)) = simp append_assoc in
    ap (λ xs. xs ++ last) all ∙ grouped ∙ ap (λ xs. old ++ (heading ++ xs)) (sym line)
