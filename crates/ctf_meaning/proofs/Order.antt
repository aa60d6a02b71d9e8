-- The parts of a text are in such an order that no place sees its own part or a later one.
use Rattle.std.proofs.Common.{◌≡◌, ℕ, ◌+◌, ◌≤◌, false, List, [], ◌∷◌, ◌++◌, arith}
use Rattle.ctf_meaning.specs.Written.{Form, Item, Items, BlockEntry, Declaration, Integer, Float, String, Struct, Variant, Enum, Named, Fields, Alias, Definition, Compound, no_item, some_items, Assigned, Classed, Declared, Block, Table, Names}
use Rattle.ctf_meaning.specs.Parts.{Place, Part, Located, of_text, of_block, of_body, located_form, located_item, located_items, located_entry, located_entries, located, located_from}
use Rattle.ctf_meaning.proofs.Lists.{Each, each_append, each_map}
use Rattle.ctf_meaning.proofs.Sees.{sees, Under, here, under_outer, under_under, sees-own, sees-later}

abbrev pub Unseen : Place → Located → Type 0
Unseen at q = sees at q.0 ≡ false

-- no place at or under the first one sees it
abbrev pub NoneSees : Place → Located → Type 0
NoneSees at q = (y : Place) → Under at y → Unseen y q

abbrev pub Ordered : List Located → Type 0
Ordered [] = Unit {0}
Ordered (p ∷ ps) = Each (NoneSees p.0) (p ∷ ps) × Ordered ps

pub ordered_append : (xs ys : List Located) → Ordered xs → Ordered ys → Each (λ x. Each (NoneSees x.0) ys) xs → Ordered (xs ++ ys)
ordered_append [] ys o k c = k
ordered_append (x ∷ xs) ys o k c =
    (each_append (NoneSees x.0) (x ∷ xs) ys o.0 c.0, ordered_append xs ys o.1 k c.1)

-- parts that lie under a place
abbrev pub Below : Place → Located → Type 0
Below at q = Under at q.0

-- parts of a block from a number on
abbrev pub Within : Place → ℕ → Located → Type 0
Within block number q = (j : ℕ) × (number ≤ j) × Under (j ∷ block) q.0

pub record Closed (at : Place) (ps : List Located) : Type 0 where
  pub below : Each (Below at) ps
  pub ordered : Ordered ps

pub record InBlock (block : Place) (number : ℕ) (ps : List Located) : Type 0 where
  pub within : Each (Within block number) ps
  pub ordered : Ordered ps

-- the parts in a part, and the part itself after them
pub closed_with : (at : Place) (inner : List Located) (part : Part) → Closed at inner → Closed at (inner ++ (at, part) ∷ [])
closed_with at inner part c = record {
  below = each_append (Below at) inner ((at, part) ∷ []) c.below (here, tt);
  ordered = ordered_append inner ((at, part) ∷ []) c.ordered (((λ y v. sees-own at y v), tt), tt)
      (each_map (Below at) (λ x. Each (NoneSees x.0) ((at, part) ∷ [])) (λ x u. ((λ y v. sees-own at y (under_under at x.0 y u v)), tt)) inner c.below);
}

-- one part of a block with all in it, and the later ones
pub in_block : (block : Place) (n : ℕ) (xs ys : List Located) → Closed (n ∷ block) xs → InBlock block (n + 1) ys → InBlock block n (xs ++ ys)
in_block block n xs ys c k = record {
  within = each_append (Within block n) xs ys
      (each_map (Below (n ∷ block)) (Within block n) (λ x u. (n, omega arith, u)) xs c.below)
      (each_map (Within block (n + 1)) (Within block n) (λ y w. (w.0, grind (arith, w.1), w.2)) ys k.within);
  ordered = ordered_append xs ys c.ordered k.ordered
      (each_map (Below (n ∷ block)) (λ x. Each (NoneSees x.0) ys)
      (λ x u. each_map (Within block (n + 1)) (NoneSees x.0) (λ q w y v. sees-later n w.0 block y q.0 (grind (arith, w.1)) (under_under (n ∷ block) x.0 y u v) w.2) ys k.within)
      xs c.below);
}

pub closed_block : (at : Place) (n : ℕ) (ps : List Located) → InBlock at n ps → Closed at ps
closed_block at n ps k = record {
  below = each_map (Within at n) (Below at) (λ q w. under_outer w.0 at q.0 w.2) ps k.within;
  ordered = k.ordered;
}

closed_none : (at : Place) → Closed at []
closed_none at = record { below = tt; ordered = tt }

none_in_block : (at : Place) (n : ℕ) → InBlock at n []
none_in_block at n = record { within = tt; ordered = tt }

mutual
  pub order_form : (at : Place) (form : Form) → Closed at (located_form at form)
  order_form at (Struct name is align) = closed_block at 0 (located_items at 0 is) (order_items at 0 is)
  order_form at (Variant name tag is) = closed_block at 0 (located_items at 0 is) (order_items at 0 is)
  order_form at (Integer settings) = closed_none at
  order_form at (Float settings) = closed_none at
  order_form at (String settings) = closed_none at
  order_form at (Enum name c labels) = closed_none at
  order_form at (Named name tag) = closed_none at

  pub order_item : (at : Place) (part : Part) (item : Item) → Closed at (located_item at part item)
  order_item at part (Fields form declarators) = closed_with at (located_form at form) part (order_form at form)
  order_item at part (Alias form words) = closed_with at (located_form at form) part (order_form at form)
  order_item at part (Definition form declarators) = closed_with at (located_form at form) part (order_form at form)
  order_item at part (Compound form) = closed_with at (located_form at form) part (order_form at form)

  pub order_items : (block : Place) (n : ℕ) (is : Items) → InBlock block n (located_items block n is)
  order_items block n no_item = none_in_block block n
  order_items block n (some_items i is) =
      in_block block n (located_item (n ∷ block) (of_body i) i) (located_items block (n + 1) is)
      (order_item (n ∷ block) (of_body i) i) (order_items block (n + 1) is)

pub order_entry : (at : Place) (e : BlockEntry) → Closed at (located_entry at e)
order_entry at (Assigned setting) = closed_with at [] (of_block (Assigned setting)) (closed_none at)
order_entry at (Classed words form) = closed_with at (located_form at form) (of_block (Classed words form)) (order_form at form)
order_entry at (Declared item) = order_item at (of_block (Declared item)) item

pub order_entries : (block : Place) (n : ℕ) (es : List BlockEntry) → InBlock block n (located_entries block n es)
order_entries block n [] = none_in_block block n
order_entries block n (e ∷ es) =
    in_block block n (located_entry (n ∷ block) e) (located_entries block (n + 1) es) (order_entry (n ∷ block) e) (order_entries block (n + 1) es)

pub order_declaration : (at : Place) (d : Declaration) → Closed at (located at d)
order_declaration at (Block kind entries) =
    closed_with at (located_entries at 0 entries) (of_text (Block kind entries)) (closed_block at 0 (located_entries at 0 entries) (order_entries at 0 entries))
order_declaration at (Table kind settings) = closed_with at [] (of_text (Table kind settings)) (closed_none at)
order_declaration at (Names item) = order_item at (of_text (Names item)) item

pub order_from : (n : ℕ) (text : List Declaration) → InBlock [] n (located_from n text)
order_from n [] = none_in_block [] n
order_from n (d ∷ ds) = in_block [] n (located (n ∷ []) d) (located_from (n + 1) ds) (order_declaration (n ∷ []) d) (order_from (n + 1) ds)
