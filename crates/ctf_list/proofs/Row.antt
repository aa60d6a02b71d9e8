-- Pieces in a row: there is one row at the most, and it goes to the end or to where no piece is.
use Rattle.std.proofs.Common.{◌≡◌, ◌≢◌, ℕ, zero, suc, ◌<◌, ◌≤◌, List, [], ◌∷◌, ◌++◌, length, refl, sym, ap, subst, ◌∙◌, arith, append_assoc, ◌⊎◌, inl, inr, ⊎_elim}
use Rattle.std.specs.List.{flat_map}
use Rattle.std.proofs.lemmas.List.{append-nil, length-append}
use Rattle.std.proofs.lemmas.List.Concat.{flat_map-append}
use Rattle.ctf_list.specs.Row.{AllStand, NothingStands}

-- what is asked of a kind of pieces: a piece that is there has elements, and at most one piece is at one place
pub record AreTold {P A : Type 0} (elements : P → List A) (Stands : P → List A → Type 0) : Type 0 where
  pub some : (p : P) (after : List A) → Stands p after → 0 < length (elements p)
  pub one : (p q : P) (s t : List A) → Stands p s → Stands q t → elements p ++ s ≡ elements q ++ t → (p ≡ q) × (s ≡ t)

-- ---- one more piece at the end

pub flat_map-push : {P A : Type 0} (elements : P → List A) (pieces : List P) (piece : P) → flat_map elements (pieces ++ piece ∷ []) ≡ flat_map elements pieces ++ elements piece
flat_map-push elements pieces piece = flat_map-append elements pieces (piece ∷ []) ∙ ap (λ xs. flat_map elements pieces ++ xs) (append-nil (elements piece))

pub AllStand-push : {P A : Type 0} (elements : P → List A) (Stands : P → List A → Type 0) (pieces : List P) (piece : P) (after : List A) → AllStand elements Stands pieces (elements piece ++ after) → Stands piece after → AllStand elements Stands (pieces ++ piece ∷ []) after
AllStand-push elements Stands [] piece after all stands = (stands, tt)
AllStand-push elements Stands (p ∷ pieces) piece after all stands = (
  subst (Stands p) (sym (append_assoc (flat_map elements pieces) (elements piece) after) ∙ ap (λ xs. xs ++ after) (sym (flat_map-push elements pieces piece))) all.0,
  AllStand-push elements Stands pieces piece after all.1 stands,
)

-- ---- one row

-- at the end no piece is
pub nothing_at_end : {P A : Type 0} (elements : P → List A) (Stands : P → List A → Type 0) → AreTold elements Stands → NothingStands elements Stands []
nothing_at_end elements Stands told piece after e stands =
    let l = ap length e in
    let m = length-append (elements piece) after in
    let n = told.some piece after stands in
    omega arith

-- two rows from one place on, each to where no piece is, are one
pub one_row : {P A : Type 0} (elements : P → List A) (Stands : P → List A → Type 0) → AreTold elements Stands → (ps qs : List P) (a b : List A) → AllStand elements Stands ps a → AllStand elements Stands qs b → NothingStands elements Stands a → NothingStands elements Stands b → flat_map elements ps ++ a ≡ flat_map elements qs ++ b → (ps ≡ qs) × (a ≡ b)
one_row elements Stands told [] [] a b s t m n e = (refl, e)
one_row elements Stands told [] (q ∷ qs) a b s t m n e = absurd (m q (flat_map elements qs ++ b) (e ∙ append_assoc (elements q) (flat_map elements qs) b) t.0)
one_row elements Stands told (p ∷ ps) [] a b s t m n e = absurd (n p (flat_map elements ps ++ a) (sym e ∙ append_assoc (elements p) (flat_map elements ps) a) s.0)
one_row elements Stands told (p ∷ ps) (q ∷ qs) a b s t m n e =
    let first = told.one p q (flat_map elements ps ++ a) (flat_map elements qs ++ b) s.0 t.0 (sym (append_assoc (elements p) (flat_map elements ps) a) ∙ e ∙ append_assoc (elements q) (flat_map elements qs) b) in
    let rest = one_row elements Stands told ps qs a b s.1 t.1 m n first.1 in
    (ap (λ x. p ∷ x) rest.0 ∙ ap (λ x. x ∷ qs) first.0, rest.1)

-- ---- there is a row

-- the piece at the front
pub record Front {P A : Type 0} (elements : P → List A) (Stands : P → List A → Type 0) (list : List A) : Type 0 where
  pub piece : P
  pub after : List A
  pub whole : list ≡ elements piece ++ after
  pub stands : Stands piece after
  pub some : 0 < length (elements piece)

-- the list is such a row, or goes on after one with what is stuck
pub record Row {P A : Type 0} (elements : P → List A) (Stands : P → List A → Type 0) (Stuck : List A → Type 0) (list : List A) : Type 0 where
  pub pieces : List P
  pub after : List A
  pub whole : flat_map elements pieces ++ after ≡ list
  pub stand : AllStand elements Stands pieces after
  pub ends : (after ≡ []) ⊎ ((after ≢ []) × Stuck after)

row_on : {P A : Type 0} (elements : P → List A) (Stands : P → List A → Type 0) (Stuck : List A → Type 0) (list : List A) (front : Front elements Stands list) → Row elements Stands Stuck front.after → Row elements Stands Stuck list
row_on elements Stands Stuck list front row = record {
  pieces = front.piece ∷ row.pieces;
  after = row.after;
  whole = append_assoc (elements front.piece) (flat_map elements row.pieces) row.after ∙ ap (λ xs. elements front.piece ++ xs) row.whole ∙ sym front.whole;
  stand = (subst (Stands front.piece) (sym row.whole) front.stands, row.stand);
  ends = row.ends;
}

row_from : {P A : Type 0} (elements : P → List A) (Stands : P → List A → Type 0) (Stuck : List A → Type 0) → ((list : List A) → list ≢ [] → Front elements Stands list ⊎ Stuck list) → (n : ℕ) (list : List A) → length list ≤ n → Row elements Stands Stuck list
row_from elements Stands Stuck next n [] h = record { pieces = []; after = []; whole = refl; stand = tt; ends = inl refl }
row_from elements Stands Stuck next zero (x ∷ xs) h = absurd (omega arith)
row_from elements Stands Stuck next (suc n) (x ∷ xs) h =
    ⊎_elim
    (λ (front : Front elements Stands (x ∷ xs)).
    let l = ap length front.whole in
    let m = length-append (elements front.piece) front.after in
    let k = front.some in
    row_on elements Stands Stuck (x ∷ xs) front (row_from elements Stands Stuck next n front.after (omega arith)))
    (λ stuck. record { pieces = []; after = x ∷ xs; whole = refl; stand = tt; ends = inr (some, stuck) })
    (next (x ∷ xs) some)
  where
    some : x ∷ xs ≢ []
    some e = absurd cc

pub row : {P A : Type 0} (elements : P → List A) (Stands : P → List A → Type 0) (Stuck : List A → Type 0) → ((list : List A) → list ≢ [] → Front elements Stands list ⊎ Stuck list) → (list : List A) → Row elements Stands Stuck list
row elements Stands Stuck next list = row_from elements Stands Stuck next (length list) list (omega arith)
