-- Arrays that are shown where they are, one element more at a time.
use Rattle.std.proofs.Common.{◌≡◌, ℕ, suc, ◌+◌, ◌-◌, ◌*◌, ◌<◌, ◌≤◌, cond, List, [], ◌∷◌, ◌++◌, length, take, Option, Some, None, IfSome, Ok, Err, rules, refl, sym, ap, subst, ◌∙◌, arith, append_assoc, append-nil, length-append}
use Rattle.std.specs.Prelude.{slice_get}
use Rattle.std.specs.Int.{next_multiple_of}
use Rattle.std.proofs.lemmas.Bool.{le-ltb}
use Rattle.std.proofs.lemmas.Nat.{row_fits}
use Rattle.std.proofs.Math.Nat.{add-mul}
use Rattle.ctf_class.specs.declared.class.Class as class
use Rattle.ctf_class.specs.declared.class.Class.{Class}
use Rattle.ctf_class.specs.declared.class.Kind as kind
use Rattle.ctf_class.specs.declared.integer.Integer.{Integer}
use Rattle.ctf_class.specs.declared.route.Length.{Length}
use Rattle.ctf_class.specs.declared.route.Length.TheVariants.{Field}
use Rattle.ctf_class.specs.declared.route.Route.{Route}
use Rattle.ctf_class.specs.declared.route.Scope.{Scope}
use Rattle.ctf_decode.specs.Breaks.{past}
use Rattle.ctf_decode.specs.Fields.{elements_in}
use Rattle.ctf_decode.specs.Forms as forms
use Rattle.ctf_decode.specs.Forms.{Form, integer, align_of}
use Rattle.ctf_decode.specs.Input.{Env}
use Rattle.ctf_decode.specs.Routes.{found, number_of}
use Rattle.ctf_decode.specs.Values.{Val, vals_of, unsigned, list}
use Rattle.ctf_decode.specs.Views.{form, shape}
use Rattle.ctf_decode.specs.Walk.{and_then, begin, open_at, as_list, repeat, walk}
use Rattle.ctf_decode.specs.declared.scopes.TheConstants.{MOST_VALUES}
use Rattle.ctf_decode.proofs.Steps.{row_ok}
use Rattle.ctf_decode.proofs.Views.{shape-Array}
use Rattle.ctf_format.specs.Rows.{row, enclosed}
use Rattle.ctf_class.specs.Records.{LeadsBefore}
use Rattle.ctf_format.specs.Standing.{Before, among, LastIs, PutsOne, PutsSome, PutsNext, PutsElements, Counts, array_text, elements_text, IfKnown}
use Rattle.ctf_format.specs.Texts.{Shown, value_text, element_text, element_texts}
use Rattle.ctf_format.specs.declared.standing.Last.TheVariants as lasts
use Rattle.ctf_format.specs.declared.standing.Next.{Next}
use Rattle.ctf_format.proofs.StandingLemmas.{begins, form-is, value-is, form_integer, text_integer, last_of, row_more, mark_at, kind_text}

-- what a route finds that leads to the member before
pub found_last : (route : Route) (index : ℕ) (vs ws : List Val) (v : Val) (earlier : Scope → Option Val) (env : Env) → LeadsBefore route index → length vs ≡ index → vs ≡ ws ++ v ∷ [] → found route earlier (vs ∷ env) ≡ Some v
unfolding found
found_last route index vs ws v earlier env leads counted last =
    let step = leads.1.0 in
    let few : length ws ≡ step = omega (arith, counted, leads.1.2, ap length last, length-append ws (v ∷ [])) in
    let stands : slice_get vs step ≡ Some v = ap (λ xs. slice_get xs step) last ∙ last_of ws v step few in
    rw (leads.0, leads.1.1, stands) refl

-- a length that is the member before
pub counts_last : (route : Route) (before : Before) (n : ℕ) → LeadsBefore route before.index → before.last ≡ lasts.Unsigned n → Counts (Field route) before n
counts_last route before n leads is earlier env vs counted last =
    let at_end = subst (λ l. LastIs l vs) is last in
    let many : length vs ≡ before.index = subst (λ l. IfKnown l (length vs ≡ before.index)) is counted in
    ap number_of (found_last route before.index vs at_end.0 (unsigned n) earlier env leads many at_end.1)

pub elements_snoc : (shown : Shown) (k : ℕ) (vs : List Val) (v : Val) → element_texts shown k (vals_of (vs ++ v ∷ [])) ≡ element_texts shown k (vals_of vs) ++ element_text shown (k + length vs) v ∷ []
elements_snoc shown k [] v = let n : k ≡ k + 0 = omega arith in ap (λ i. element_text shown i v ∷ []) n
elements_snoc shown k (w ∷ vs) v =
    let n : suc k + length vs ≡ k + suc (length vs) = omega arith in
    ap (λ xs. element_text shown k w ∷ xs) (elements_snoc shown (suc k) vs v ∙ ap (λ i. element_texts shown (suc k) (vals_of vs) ++ element_text shown i v ∷ []) n)

pub elements_length : (shown : Shown) (k : ℕ) (vs : List Val) → length (element_texts shown k (vals_of vs)) ≡ length vs
elements_length shown k [] = refl
elements_length shown k (w ∷ vs) = ap suc (elements_length shown (suc k) vs)

-- One row more.
row_next : (k each : ℕ) → (k + 1) * each ≡ k * each + each
row_next k each = add-mul k 1 each ∙ ap (λ n. k * each + n) (omega arith)

-- The loop over elements: as many as an index says were written, and the others are after them.
abbrev pub Going : Form → Shown → ℕ → ℕ → List ℕ → ℕ → ℕ → ℕ → ℕ → List ℕ → List ℕ → Type 0
Going inner shown each count packet content place k at before line =
    (spent : ℕ) → spent + count * each ≤ MOST_VALUES → (earlier : Scope → Option Val) (env : Env)
    → (vs : List Val)
    × (repeat (walk inner (among packet content earlier) env) (count - k) vs at (spent + k * each) ≡ repeat (walk inner (among packet content earlier) env) count [] place spent)
    × (length vs ≡ k) × (line ≡ before ++ row 91 (element_texts shown 0 (vals_of vs)))

module _ (inner : Form) (shown : Shown) (each count : ℕ) (packet : List ℕ) (content place : ℕ) (before : List ℕ) where
  pub going_begins : Going inner shown each count packet content place 0 place before before
  going_begins spent room earlier env =
      let s : spent + 0 * each ≡ spent = omega arith in
      let all : count - 0 ≡ count = omega arith in
      ([], (λ j. repeat (walk inner (among packet content earlier) env) (all j) [] place (s j)), refl, sym (append-nil before))

  pub going_on : (k at there lead : ℕ) (line more : List ℕ) → k < count → lead ≡ mark_at 91 k → Going inner shown each count packet content place k at before line
      → PutsSome inner (λ v. lead ∷ 32 ∷ element_text shown k v) each packet content at there line more → Going inner shown each count packet content place (k + 1) there before more
  going_on k at there lead line more within marked going puts spent room earlier env =
      let c = among packet content earlier in
      let f = walk inner c env in
      let g = going spent room earlier env in
      let vs = g.0 in
      let fits : k * each + each ≤ count * each = row_fits k each count each within (omega arith) in
      let few : spent + k * each + each ≤ MOST_VALUES = omega (arith, room, fits) in
      let p = puts (spent + k * each) few earlier env in
      let total : spent + (k + 1) * each ≡ spent + k * each + each = ap (λ n. spent + n) (row_next k each) ∙ omega arith in
      let walked = ap (repeat f (count - (k + 1)) (vs ++ p.0 ∷ []) there) total ∙ row_ok f count k within vs at (spent + k * each) p.0 there (spent + k * each + each) (vs ++ p.0 ∷ []) refl p.1 ∙ g.1 in
      let longer : length (vs ++ p.0 ∷ []) ≡ k + 1 = length-append vs (p.0 ∷ []) ∙ ap (λ n. n + 1) g.2 in
      let all = element_texts shown 0 (vals_of vs) in
      let text = element_text shown k p.0 in
      let lead_is : mark_at 91 (length all) ≡ lead = ap (mark_at 91) (elements_length shown 0 vs ∙ g.2) ∙ sym marked in
      let at_end : 0 + length vs ≡ k = omega (arith, g.2) in
      let texts : element_texts shown 0 (vals_of (vs ++ p.0 ∷ [])) ≡ all ++ text ∷ [] = elements_snoc shown 0 vs p.0 ∙ ap (λ n. all ++ element_text shown n p.0 ∷ []) at_end in
      let wrote =
      p.2 ∙ ap (λ xs. xs ++ (lead ∷ 32 ∷ text)) g.3 ∙ append_assoc before (row 91 all) (lead ∷ 32 ∷ text)
      ∙ ap (λ l. before ++ (row 91 all ++ (l ∷ 32 ∷ text))) (sym lead_is) ∙ ap (λ xs. before ++ xs) (sym (row_more 91 all text)) ∙ ap (λ ts. before ++ row 91 ts) (sym texts)
      in
      (vs ++ p.0 ∷ [], walked, longer, wrote)

  pub going_ends : (at : ℕ) (line : List ℕ) → Going inner shown each count packet content place count at before line → PutsElements (row 91) inner shown each count packet content place at before line
  going_ends at line going spent room earlier env =
      let g = going spent room earlier env in
      let over : count - count ≡ 0 = omega arith in
      (g.0, sym g.1 ∙ ap (λ n. repeat (walk inner (among packet content earlier) env) n g.0 at (spent + count * each)) over, g.2, g.3)

closed_row : (shown : Shown) (vs : List Val) → 0 < length vs → row 91 (element_texts shown 0 (vals_of vs)) ++ (32 ∷ 93 ∷ []) ≡ enclosed 91 93 (element_texts shown 0 (vals_of vs))
closed_row shown [] some = absurd (omega (arith, some))
closed_row shown (v ∷ vs) some = refl

-- the mark after the elements
pub closed : (inner : Form) (shown : Shown) (each count : ℕ) (packet : List ℕ) (content place end : ℕ) (before line after : List ℕ) → 0 < count → after ≡ line ++ (32 ∷ 93 ∷ []) → PutsElements (row 91) inner shown each count packet content place end before line → PutsElements (enclosed 91 93) inner shown each count packet content place end before after
closed inner shown each count packet content place end before line after some added puts spent room earlier env =
    let p = puts spent room earlier env in
    let all = element_texts shown 0 (vals_of p.0) in
    (p.0, p.1, p.2, added ∙ ap (λ xs. xs ++ (32 ∷ 93 ∷ [])) p.3 ∙ append_assoc before (row 91 all) (32 ∷ 93 ∷ []) ∙ ap (λ xs. before ++ xs) (closed_row shown p.0 (omega (arith, some, p.2))))

-- no elements
pub puts_none : (inner : Form) (shown : Shown) (each : ℕ) (packet : List ℕ) (content place : ℕ) (before after : List ℕ) → after ≡ before ++ (91 ∷ 32 ∷ 93 ∷ []) → PutsElements (enclosed 91 93) inner shown each 0 packet content place place before after
puts_none inner shown each packet content place before after wrote spent room earlier env = let s : spent ≡ spent + 0 * each = omega arith in ([], ap (λ n. Ok ([], place, n)) s, refl, wrote)

text-Array : (many : Length) (c : Class) → kind_text (kind.Array many c) ≡ (λ v. enclosed 91 93 (element_texts (value_text c) 0 (elements_in v)))
text-Array many c = search (rules, class.the_lemmas)

-- the elements are the value of an array
pub puts_array : (before : Before) (many : Length) (a : ℕ) (inner : Form) (shown : Shown) (each : ℕ) (packet : List ℕ) (content place start count more end text : ℕ) (line after : List ℕ)
    → start ≡ next_multiple_of place (align_of inner) → start ≤ content → more ≡ count * each → Counts many before count → PutsElements (enclosed 91 93) inner shown each count packet content start end line after
    → PutsNext before (forms.array a many inner) (array_text shown) packet content place line (record { place = end; text = text; more = more; last = lasts.Unknown }) after
puts_array before many a inner shown each packet content place start count more end text line after starts within sum counts elements spent room earlier env vs counted last =
    let c = among packet content earlier in
    let e = vs ∷ env in
    let p = elements (spent + 1) (omega (arith, room, sum)) earlier e in
    let rest = λ (b n : ℕ). and_then (repeat (walk inner c e) n [] b (spent + 1)) as_list in
    let opened : open_at c start (rest start count) ≡ rest start count = ap (λ b. cond b (Err (past start)) (rest start count)) (le-ltb content start within) in
    let total : spent + 1 + count * each ≡ spent + 1 + more = ap (λ n. spent + 1 + n) (sym sum) in
    let walked : walk (forms.array a many inner) c e place spent ≡ Ok (list (vals_of p.0), end, spent + 1 + more) =
    (λ j. begin c spent (open_at c (sym starts j) (rest (sym starts j) (counts earlier env vs counted last j)))) ∙ begins c spent (open_at c start (rest start count)) (omega (arith, room)) ∙ opened ∙ ap (λ r. and_then r as_list) p.1 ∙ ap (λ n. Ok (list (vals_of p.0), end, n)) total
    in
    (list (vals_of p.0), walked, p.3, tt)

-- the class of an array of integers, and what it shows
pub form_array : (c k : Class) (many : Length) (i : Integer) → c.kind ≡ kind.Array many k → k.kind ≡ kind.Integer i → forms.array c.align many (integer k.align i) ≡ form c
form_array c k many i is_array is_integer =
    ap (forms.array c.align many) (form_integer k i is_integer) ∙ sym (form-is c ∙ ap (λ x. shape x c.align) is_array ∙ shape-Array many k c.align)

pub text_array : (c k : Class) (many : Length) (i : Integer) → c.kind ≡ kind.Array many k → k.kind ≡ kind.Integer i → elements_text i ≡ value_text c
text_array c k many i is_array is_integer =
    let show : Shown → Shown = λ f v. enclosed 91 93 (element_texts f 0 (elements_in v)) in
    ap show (text_integer k i is_integer) ∙ sym (text-Array many k) ∙ ap kind_text (sym is_array) ∙ sym (value-is c)

-- the same value, as that of the class that it is of
pub next_class : (r : Option Next) (before : Before) (k l : Form) (shown told : Shown) (packet : List ℕ) (content place : ℕ) (line after : List ℕ) → k ≡ l → shown ≡ told
    → IfSome r (λ n. PutsNext before k shown packet content place line n (take n.text after)) → IfSome r (λ n. PutsNext before l told packet content place line n (take n.text after))
next_class None before k l shown told packet content place line after forms_are texts_are puts = tt
next_class (Some n) before k l shown told packet content place line after forms_are texts_are puts =
    subst (λ t. PutsNext before l t packet content place line n (take n.text after)) texts_are (subst (λ f. PutsNext before f shown packet content place line n (take n.text after)) forms_are puts)

-- one value of one
pub puts_some : (k : Form) (shown : Shown) (packet : List ℕ) (content place end : ℕ) (before after : List ℕ) → PutsOne k shown packet content place end before after → PutsSome k shown 1 packet content place end before after
puts_some k shown packet content place end before after puts spent few = puts spent (omega (arith, few))

-- an index and a value after it are an element
pub puts_element : (inner : Form) (shown : Shown) (each lead k : ℕ) (packet : List ℕ) (content place end : ℕ) (before line index after : List ℕ) → line ≡ before ++ (lead ∷ 32 ∷ index) → ((v : Val) → element_text shown k v ≡ index ++ shown v)
    → PutsSome inner shown each packet content place end line after → PutsSome inner (λ v. lead ∷ 32 ∷ element_text shown k v) each packet content place end before after
puts_element inner shown each lead k packet content place end before line index after wrote is puts spent few earlier env =
    let p = puts spent few earlier env in
    let text = shown p.0 in
    (p.0, p.1, p.2 ∙ ap (λ xs. xs ++ text) wrote ∙ append_assoc before (lead ∷ 32 ∷ index) text ∙ ap (λ xs. before ++ (lead ∷ 32 ∷ xs)) (sym (is p.0)))

-- and of one value
pub puts_one_element : (inner : Form) (shown : Shown) (lead k : ℕ) (packet : List ℕ) (content place end : ℕ) (before line index after : List ℕ) → line ≡ before ++ (lead ∷ 32 ∷ index) → ((v : Val) → element_text shown k v ≡ index ++ shown v)
    → PutsOne inner shown packet content place end line after → PutsOne inner (λ v. lead ∷ 32 ∷ element_text shown k v) packet content place end before after
puts_one_element inner shown lead k packet content place end before line index after wrote is puts spent few = puts_element inner shown 1 lead k packet content place end before line index after wrote is (puts_some inner shown packet content place end line after puts) spent (omega (arith, few))
