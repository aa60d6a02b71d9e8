-- Elements of arrays, and values of other kinds, are shown where they are.
use Rattle.std.proofs.Common.{◌≡◌, ℕ, ℤ, ◌+◌, ◌-◌, ◌*◌, ◌<◌, ◌≤◌, Bool, true, false, cond, List, [], ◌∷◌, ◌++◌, map, length, take, Option, Some, Ok, Err, pos, codes, refl, sym, ap, subst, ◌∙◌, arith, rules, append_assoc, append-nil, length-append}
use Rattle.std.specs.Fmt.{decimal}
use Rattle.std.specs.Int.{next_multiple_of}
use Rattle.std.proofs.lemmas.Bool.{le-ltb}
use Rattle.ctf_bits.specs.Number.{number, signed_number}
use Rattle.ctf_class.specs.declared.class.Class as class
use Rattle.ctf_class.specs.declared.class.Class.{Class}
use Rattle.ctf_class.specs.declared.class.Kind as kind
use Rattle.ctf_class.specs.declared.class.Member.{Member}
use Rattle.ctf_class.specs.declared.integer.Integer.{Integer}
use Rattle.ctf_class.specs.declared.route.Length.{Length}
use Rattle.ctf_class.specs.declared.route.Length.TheVariants.{Fixed}
use Rattle.ctf_class.specs.declared.route.Route.{Route}
use Rattle.ctf_class.specs.declared.route.Scope.{Scope}
use Rattle.ctf_class.specs.declared.span.Choice.{Choice}
use Rattle.ctf_class.specs.declared.span.Label.{Label}
use Rattle.ctf_class.specs.Integers.{bits_of}
use Rattle.ctf_decode.specs.Breaks.{past}
use Rattle.ctf_decode.specs.Fields.{choice_in}
use Rattle.ctf_decode.specs.Forms as forms
use Rattle.ctf_decode.specs.Forms.{Form, align_of, parts_of}
use Rattle.ctf_decode.specs.Input.{Input, Env}
use Rattle.ctf_decode.specs.Routes.{length_of}
use Rattle.ctf_decode.specs.Stands.{text_in}
use Rattle.ctf_decode.specs.Values.{Val, vals_of, label, list}
use Rattle.ctf_decode.specs.Views as views
use Rattle.ctf_decode.specs.Views.{form, shape}
use Rattle.ctf_decode.specs.Walk.{and_then, begin, leaf, open_at, as_list, repeat, walk}
use Rattle.ctf_decode.specs.declared.scopes.TheConstants.{MOST_VALUES}
use Rattle.ctf_decode.proofs.Aligns.{align-is}
use Rattle.ctf_decode.proofs.Steps.{row_ok}
use Rattle.ctf_decode.proofs.Views.{shape-Array, shape-Enumeration, shape-Variant}
use Rattle.ctf_format.specs.Labels.{labelled_text}
use Rattle.ctf_format.specs.Rows.{row, enclosed}
use Rattle.ctf_format.specs.Standing.{PutsRow, PutsWhere, Before, among, ValueIs, known_of, PutsOne, PutsNext, StandsAsNumber, Counts, Writes, array_text}
use Rattle.ctf_format.specs.Texts.{Shown, value_text, member_part, element_text, element_texts, integer_text, enumeration_text, string_text, chosen_text}
use Rattle.ctf_format.specs.declared.content.Content.{Content}
use Rattle.ctf_format.specs.declared.standing.Position.{Position}
use Rattle.ctf_format.specs.declared.standing.Last.{Last}
use Rattle.ctf_format.specs.declared.standing.Last.TheVariants as lasts
use Rattle.ctf_format.specs.declared.standing.MembersEnd.{MembersEnd}
use Rattle.ctf_format.specs.declared.standing.Next.{Next}
use Rattle.ctf_format.proofs.ArrayLemmas.{elements_snoc, elements_length}
use Rattle.ctf_format.proofs.StandingLemmas.{begins, leaf_stands, form-is, value-is, row_more, puts_next, standing_next, mark_at, kind_text}

-- What classes of the other kinds are decoded as, and what they show.
text-Enumeration : (i : Integer) (ls : List Label) → kind_text (kind.Enumeration i ls) ≡ enumeration_text i ls
text-Enumeration i ls = search (rules, class.the_lemmas)

text-Variant : (tag : Route) (choices : List Choice) (ms : List Member) → kind_text (kind.Variant tag choices ms) ≡ (λ v. chosen_text (map member_part ms) (choice_in v))
text-Variant tag choices ms = search (rules, class.the_lemmas)

text-Any : (many : Length) (c : Class) → kind_text (kind.Array many c) ≡ array_text (value_text c)
text-Any many c = search (rules, class.the_lemmas)

module _ (c : Class) where
  pub form_enumeration : (i : Integer) (ls : List Label) → c.kind ≡ kind.Enumeration i ls → forms.enumeration c.align i ≡ form c
  form_enumeration i ls is = sym (form-is c ∙ ap (λ k. shape k c.align) is ∙ shape-Enumeration i ls c.align)

  pub text_enumeration : (i : Integer) (ls : List Label) → c.kind ≡ kind.Enumeration i ls → enumeration_text i ls ≡ value_text c
  text_enumeration i ls is = sym (value-is c ∙ ap kind_text is ∙ text-Enumeration i ls)

  pub form_variant : (tag : Route) (choices : List Choice) (ms : List Member) → c.kind ≡ kind.Variant tag choices ms → forms.variant c.align tag choices (parts_of (map views.member_part ms)) ≡ form c
  form_variant tag choices ms is = sym (form-is c ∙ ap (λ k. shape k c.align) is ∙ shape-Variant tag choices ms c.align)

  pub text_variant : (tag : Route) (choices : List Choice) (ms : List Member) → c.kind ≡ kind.Variant tag choices ms → (λ v. chosen_text (map member_part ms) (choice_in v)) ≡ value_text c
  text_variant tag choices ms is = sym (value-is c ∙ ap kind_text is ∙ text-Variant tag choices ms)

  pub form_any : (many : Length) (k : Class) → c.kind ≡ kind.Array many k → forms.array c.align many (form k) ≡ form c
  form_any many k is = sym (form-is c ∙ ap (λ x. shape x c.align) is ∙ shape-Array many k c.align)

  pub text_any : (many : Length) (k : Class) → c.kind ≡ kind.Array many k → array_text (value_text k) ≡ value_text c
  text_any many k is = sym (value-is c ∙ ap kind_text is ∙ text-Any many k)

-- a value that was written is that of the class that it is of
pub writes_as : (r : Option Next) (before : Before) (k l : Form) (shown told : Shown) (packet : Content) (place : ℕ) (line items : List ℕ) → k ≡ l → shown ≡ told → Writes r before k shown packet place line items → Writes r before l told packet place line items
writes_as r before k l shown told packet place line items forms_are texts_are writes = subst (λ t. Writes r before l t packet place line items) texts_are (subst (λ f. Writes r before f shown packet place line items) forms_are writes)

-- an element after its mark and its index
pub element_after : (shown : Shown) (lead i : ℕ) (v : Val) → lead ∷ 32 ∷ element_text shown i v ≡ (lead ∷ 32 ∷ 91 ∷ (decimal i ++ codes "] = ")) ++ shown v
element_after shown lead i v = ap (λ xs. lead ∷ 32 ∷ 91 ∷ xs) (sym (append_assoc (decimal i) (codes "] = ") (shown v)))

-- what is known of a value can be left out
pub forget : (before : Before) (k : Form) (shown : Shown) (packet : List ℕ) (content place : ℕ) (line : List ℕ) (n : Next) (after : List ℕ) → PutsNext before k shown packet content place line n after → PutsNext before k shown packet content place line (record { place = n.place; text = 0; more = n.more; last = lasts.Unknown }) after
forget before k shown packet content place line n after puts spent room earlier env vs counted last =
    let p = puts spent room earlier env vs counted last in
    (p.0, p.1, p.2, tt)

-- one value alone, of which nothing is known
pub writes_one : (before : Before) (k : Form) (shown : Shown) (packet : Content) (ends : Position) (line items : List ℕ) (place : ℕ) → PutsOne k shown packet.bytes.now packet.end place ends.place line (take ends.text items)
    → Writes (Some (record { place = ends.place; text = ends.text; more = 0; last = lasts.Unknown })) before k shown packet place line items
writes_one before k shown packet ends line items place puts = puts_next before k shown packet.bytes.now packet.end place ends.place ends.text line (take ends.text items) puts

-- an integer
number_known : (signed : Bool) (bits : ℕ) (k : Form) (before : Before) (shown : Shown) (packet : List ℕ) (content place end text : ℕ) (line after : List ℕ)
    → PutsNext before k shown packet content place line (record { place = end; text = text; more = 0; last = lasts.Unknown }) after → (signed ≡ false → StandsAsNumber k packet content place bits)
    → PutsNext before k shown packet content place line (record { place = end; text = text; more = 0; last = cond signed lasts.Unknown (lasts.Unsigned bits) }) after
number_known true bits k before shown packet content place end text line after puts stands = puts
number_known false bits k before shown packet content place end text line after puts stands = standing_next (lasts.Unsigned bits) before k shown packet content place end text 0 line after puts (stands refl)

pub writes_number : (before : Before) (a : ℕ) (i : Integer) (bits : ℕ) (packet : Content) (place end text : ℕ) (last : Last) (line items : List ℕ) → last ≡ known_of i bits → PutsOne (forms.integer a i) (integer_text i) packet.bytes.now packet.end place end line (take text items)
    → (i.is_signed ≡ false → StandsAsNumber (forms.integer a i) packet.bytes.now packet.end place bits)
    → Writes (Some (record { place = end; text = text; more = 0; last = last })) before (forms.integer a i) (integer_text i) packet place line items
writes_number before a i bits packet place end text last line items is puts stands =
    let k = forms.integer a i in
    let shown = integer_text i in
    let bytes = packet.bytes.now in
    subst (λ l. PutsNext before k shown bytes packet.end place line (record { place = end; text = text; more = 0; last = l }) (take text items)) (sym is)
    (number_known i.is_signed bits k before shown bytes packet.end place end text line (take text items) (puts_next before k shown bytes packet.end place end text line (take text items) puts) stands)

-- an enumeration
pub writes_label : (before : Before) (a : ℕ) (i : Integer) (ls : List Label) (packet : Content) (place end text : ℕ) (z : ℤ) (last : Last) (line items : List ℕ) → end ≡ next_multiple_of place a + bits_of i → end ≤ packet.end
    → cond i.is_signed (signed_number i.order packet.bytes.now (next_multiple_of place a) (bits_of i)) (pos (number i.order packet.bytes.now (next_multiple_of place a) (bits_of i))) ≡ z
    → ValueIs last (label z) → take text items ≡ line ++ labelled_text i ls z → Writes (Some (record { place = end; text = text; more = 0; last = last })) before (forms.enumeration a i) (enumeration_text i ls) packet place line items
writes_label before a i ls packet place end text z last line items ending within read is wrote spent room earlier env vs counted known =
    let c = among packet.bytes.now packet.end earlier in
    let b = next_multiple_of place a in
    let e = b + bits_of i in
    let none : spent + 1 ≡ spent + 1 + 0 = omega arith in
    (label z, ap (λ n. begin c spent (leaf c e spent (label n))) read ∙ leaf_stands c e spent (label z) (omega (arith, room)) (subst (λ n. n ≤ packet.end) ending within) ∙ (λ j. Ok (label z, sym ending j, none j)), wrote, is)

-- an array whose length is known
pub counted_array : (a : ℕ) (k : Form) (many : Length) (n : ℕ) (c : Input) (e : Env) (p s : ℕ) → length_of many c.earlier e ≡ n → walk (forms.array a many k) c e p s ≡ walk (forms.array a (Fixed n) k) c e p s
counted_array a k many n c e p s is =
    let b = next_multiple_of p (align_of k) in ap (λ m. begin c s (open_at c b (and_then (repeat (walk k c e) m [] b (s + 1)) as_list))) is

-- a text whose length is known
pub counted_text : (a : ℕ) (many : Length) (n : ℕ) (c : Input) (e : Env) (p s : ℕ) → length_of many c.earlier e ≡ n → walk (forms.text a many) c e p s ≡ walk (forms.text a (Fixed n)) c e p s
counted_text a many n c e p s is = let b = next_multiple_of p 8 in ap (λ m. begin c s (leaf c (b + 8 * m) s (text_in c b m))) is

pub writes_text : (before : Before) (a : ℕ) (many : Length) (n : ℕ) (packet : Content) (place : ℕ) (ends : Position) (line items : List ℕ) → Counts many before n
    → ((b : ℕ) → PutsOne (forms.text b (Fixed n)) string_text packet.bytes.now packet.end place ends.place line (take ends.text items))
    → Writes (Some (record { place = ends.place; text = ends.text; more = 0; last = lasts.Unknown })) before (forms.text a many) string_text packet place line items
writes_text before a many n packet place ends line items counts puts spent room earlier env vs counted last =
    let c = among packet.bytes.now packet.end earlier in
    let e = vs ∷ env in
    let p = writes_one before (forms.text a (Fixed n)) string_text packet ends line items place (puts a) spent room earlier env vs counted last in
    let b = next_multiple_of place 8 in
    let same : walk (forms.text a many) c e place spent ≡ walk (forms.text a (Fixed n)) c e place spent = counted_text a many n c e place spent (counts earlier env vs counted last) in
    (p.0, same ∙ p.1, p.2, p.3)

-- The loop over elements: as many as an index says were written, with so many values in them, and the others are after
-- them.
abbrev pub Going : ((Scope → Option Val) → Env → Type 0) → List ℕ → ℕ → Form → Shown → ℕ → ℕ → ℕ → ℕ → ℕ → List ℕ → List ℕ → Type 0
Going Where packet content k shown count place i at more line now =
    (spent : ℕ) → spent + count + more ≤ MOST_VALUES → (earlier : Scope → Option Val) (env : Env) → Where earlier env
    → (ws : List Val)
    × (repeat (walk k (among packet content earlier) env) (count - i) ws at (spent + i + more) ≡ repeat (walk k (among packet content earlier) env) count [] place spent)
    × (length ws ≡ i) × (now ≡ line ++ row 91 (element_texts shown 0 (vals_of ws)))

module _ (Where : (Scope → Option Val) → Env → Type 0) (packet : List ℕ) (content : ℕ) (k : Form) (shown : Shown) (count place : ℕ) (line : List ℕ) where
  pub going_begins : Going Where packet content k shown count place 0 place 0 line line
  going_begins spent room earlier env sees =
      let s : spent + 0 + 0 ≡ spent = omega arith in
      let all : count - 0 ≡ count = omega arith in
      ([], (λ j. repeat (walk k (among packet content earlier) env) (all j) [] place (s j)), refl, sym (append-nil line))

  pub going_on : (i at more lead : ℕ) (now : List ℕ) (next : Next) (after : List ℕ) → i < count → lead ≡ mark_at 91 i → Going Where packet content k shown count place i at more line now
      → PutsWhere Where k (λ v. lead ∷ 32 ∷ element_text shown i v) packet content at now next after → Going Where packet content k shown count place (i + 1) next.place (more + next.more) line after
  going_on i at more lead now next after within marked going puts spent room earlier env sees =
      let f = walk k (among packet content earlier) env in
      let g = going spent (omega (arith, room)) earlier env sees in
      let ws = g.0 in
      let p = puts (spent + i + more) (omega (arith, room, within)) earlier env sees in
      let total : spent + (i + 1) + (more + next.more) ≡ spent + i + more + 1 + next.more = omega arith in
      let walked = ap (repeat f (count - (i + 1)) (ws ++ p.0 ∷ []) next.place) total ∙ row_ok f count i within ws at (spent + i + more) p.0 next.place (spent + i + more + 1 + next.more) (ws ++ p.0 ∷ []) refl p.1 ∙ g.1 in
      let longer : length (ws ++ p.0 ∷ []) ≡ i + 1 = length-append ws (p.0 ∷ []) ∙ ap (λ n. n + 1) g.2 in
      let all = element_texts shown 0 (vals_of ws) in
      let text = element_text shown i p.0 in
      let lead_is : mark_at 91 (length all) ≡ lead = ap (mark_at 91) (elements_length shown 0 ws ∙ g.2) ∙ sym marked in
      let at_end : 0 + length ws ≡ i = omega (arith, g.2) in
      let texts : element_texts shown 0 (vals_of (ws ++ p.0 ∷ [])) ≡ all ++ text ∷ [] = elements_snoc shown 0 ws p.0 ∙ ap (λ n. all ++ element_text shown n p.0 ∷ []) at_end in
      let wrote =
      p.2 ∙ ap (λ xs. xs ++ (lead ∷ 32 ∷ text)) g.3 ∙ append_assoc line (row 91 all) (lead ∷ 32 ∷ text)
      ∙ ap (λ l. line ++ (row 91 all ++ (l ∷ 32 ∷ text))) (sym lead_is) ∙ ap (λ xs. line ++ xs) (sym (row_more 91 all text)) ∙ ap (λ ts. line ++ row 91 ts) (sym texts)
      in
      (ws ++ p.0 ∷ [], walked, longer, wrote)

  pub going_ends : (at more text : ℕ) (now : List ℕ) → Going Where packet content k shown count place count at more line now → PutsRow (row 91) Where k shown count packet content place line (record { place = at; text = text; more = more }) now
  going_ends at more text now going spent room earlier env sees =
      let g = going spent room earlier env sees in
      let over : count - count ≡ 0 = omega arith in
      (g.0, sym g.1 ∙ ap (λ n. repeat (walk k (among packet content earlier) env) n g.0 at (spent + count + more)) over, g.2, g.3)

  closed_row : (ws : List Val) → 0 < length ws → row 91 (element_texts shown 0 (vals_of ws)) ++ (32 ∷ 93 ∷ []) ≡ enclosed 91 93 (element_texts shown 0 (vals_of ws))
  closed_row [] some = absurd (omega (arith, some))
  closed_row (v ∷ ws) some = refl

  -- the mark after the elements
  pub closed : (end : MembersEnd) (text : ℕ) (now after : List ℕ) → 0 < count → after ≡ now ++ (32 ∷ 93 ∷ []) → PutsRow (row 91) Where k shown count packet content place line end now → PutsRow (enclosed 91 93) Where k shown count packet content place line (record { place = end.place; text = text; more = end.more }) after
  closed end text now after some added puts spent room earlier env sees =
      let p = puts spent room earlier env sees in
      let all = element_texts shown 0 (vals_of p.0) in
      (p.0, p.1, p.2, added ∙ ap (λ xs. xs ++ (32 ∷ 93 ∷ [])) p.3 ∙ append_assoc line (row 91 all) (32 ∷ 93 ∷ []) ∙ ap (λ xs. line ++ xs) (closed_row p.0 (omega (arith, some, p.2))))

-- no elements
pub no_items : (Where : (Scope → Option Val) → Env → Type 0) (packet : List ℕ) (content : ℕ) (k : Form) (shown : Shown) (count place text : ℕ) (line after : List ℕ) → count ≡ 0 → after ≡ line ++ (91 ∷ 32 ∷ 93 ∷ []) → PutsRow (enclosed 91 93) Where k shown count packet content place line (record { place = place; text = text; more = 0 }) after
no_items Where packet content k shown count place text line after none wrote = subst (λ n. PutsRow (enclosed 91 93) Where k shown n packet content place line (record { place = place; text = text; more = 0 }) after) (sym none)
    (λ spent room earlier env sees. (let s : spent ≡ spent + 0 + 0 = omega arith in ([], ap (λ n. Ok ([], place, n)) s, refl, wrote)))

-- the elements, walked, are the value of an array
pub items_walk : (Where : (Scope → Option Val) → Env → Type 0) (packet : List ℕ) (content a : ℕ) (many : Length) (k : Class) (place start count more : ℕ) (end : MembersEnd) (line after : List ℕ) → start ≡ next_multiple_of place k.align → start ≤ content → more ≡ count + end.more
    → PutsRow (enclosed 91 93) Where (form k) (value_text k) count packet content start line end after
    → (spent : ℕ) → spent + more < MOST_VALUES → (earlier : Scope → Option Val) (env : Env) → Where earlier env → length_of many earlier env ≡ count
    → (v : Val) × (walk (forms.array a many (form k)) (among packet content earlier) env place spent ≡ Ok (v, end.place, spent + 1 + more)) × (after ≡ line ++ array_text (value_text k) v)
items_walk Where packet content a many k place start count more end line after starts within counted puts spent room earlier env sees counts =
    let c = among packet content earlier in
    let p = puts (spent + 1) (omega (arith, counted, room)) earlier env sees in
    let inner = form k in
    let rest = λ (b n : ℕ). and_then (repeat (walk inner c env) n [] b (spent + 1)) as_list in
    let opened : open_at c start (rest start count) ≡ rest start count = ap (λ b. cond b (Err (past start)) (rest start count)) (le-ltb content start within) in
    let total : spent + 1 + count + end.more ≡ spent + 1 + more = omega (arith, counted) in
    let begun : next_multiple_of place (forms.align_of inner) ≡ start = ap (next_multiple_of place) (align-is k) ∙ sym starts in
    let walked =
    (λ j. begin c spent (open_at c (begun j) (rest (begun j) (counts j)))) ∙ begins c spent (open_at c start (rest start count)) (omega (arith, room)) ∙ opened ∙ ap (λ r. and_then r as_list) p.1 ∙ ap (λ n. Ok (list (vals_of p.0), end.place, n)) total
    in
    (list (vals_of p.0), walked, p.3)
