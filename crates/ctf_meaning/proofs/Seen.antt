-- What a name means at a place is what it means by the entries before that place alone.
use Rattle.std.proofs.Common.{◌≡◌, ℕ, nat_lt, false, ◌&&◌, List, [], ◌∷◌, ◌++◌, refl, ap, ◌∙◌, subst}
use Rattle.std.specs.Option.{option_or}
use Rattle.ctf_meaning.specs.Name.{Name, same_name}
use Rattle.ctf_meaning.specs.Written.{Declaration}
use Rattle.ctf_meaning.specs.Parts.{Place, Part, Located, given_of, located_from}
use Rattle.ctf_meaning.specs.Names.{Entry, same_place, earlier_entry, meaning, entries_of, entries_after, entries_in}
use Rattle.ctf_meaning.proofs.Lists.{Each, each_map, each_made, or_left, or_right, and_three, find-append}
use Rattle.ctf_meaning.proofs.Sees.{sees, is_before, Under, here}
use Rattle.ctf_meaning.proofs.Order.{Unseen, NoneSees, Ordered, order_from}

abbrev pub UnseenEntry : Place → Entry → Type 0
UnseenEntry at e = sees at (e.number ∷ e.block) ≡ false

pub earlier_entry-append : (es fs : List Entry) (block : Place) (number : ℕ) (name : Name) → Each (λ e. is_before number block (e.number ∷ e.block) ≡ false) fs →
    earlier_entry (es ++ fs) block number name ≡ earlier_entry es block number name
earlier_entry-append es fs block number name hs =
    find-append (λ e. same_place e.block block && nat_lt e.number number && same_name e.name name) es fs
    (each_map (λ e. is_before number block (e.number ∷ e.block) ≡ false) (λ e. (same_place e.block block && nat_lt e.number number && same_name e.name name) ≡ false)
    (λ e h. and_three (same_place e.block block) (nat_lt e.number number) (same_name e.name name) h) fs hs)

pub meaning-append : (es fs : List Entry) (at : Place) (name : Name) → Each (UnseenEntry at) fs → meaning (es ++ fs) at name ≡ meaning es at name
meaning-append es fs [] name hs = refl
meaning-append es fs (number ∷ block) name hs =
    ap (λ o. option_or o (meaning (es ++ fs) block name)) (earlier_entry-append es fs block number name
    (each_map (UnseenEntry (number ∷ block)) (λ e. is_before number block (e.number ∷ e.block) ≡ false)
    (λ e h. or_left (is_before number block (e.number ∷ e.block)) (sees block (e.number ∷ e.block)) h) fs hs))
    ∙ ap (λ o. option_or (earlier_entry es block number name) o) (meaning-append es fs block name
    (each_map (UnseenEntry (number ∷ block)) (UnseenEntry block)
    (λ e h. or_right (is_before number block (e.number ∷ e.block)) (sees block (e.number ∷ e.block)) h) fs hs))

pub entries_unseen : (earlier : List Entry) (p : Located) (at : Place) → Unseen at p → Each (UnseenEntry at) (entries_of earlier p)
entries_unseen earlier ([], part) at h = tt
entries_unseen earlier (number ∷ block, part) at h = each_made (UnseenEntry at) _ (λ g. h) (given_of part)

-- The entries of parts that a place does not see change no meaning there.
pub meaning-entries_after : (ps : List Located) (es : List Entry) (at : Place) (name : Name) → Each (Unseen at) ps → meaning (entries_after es ps) at name ≡ meaning es at name
meaning-entries_after [] es at name hs = refl
meaning-entries_after (p ∷ ps) es at name hs =
    meaning-entries_after ps (es ++ entries_of es p) at name hs.1
    ∙ meaning-append es (entries_of es p) at name (entries_unseen es p at hs.0)

-- The entries of two lists of parts, one after the other, are made one after the other.
pub entries_after-append : (es : List Entry) (ps qs : List Located) → entries_after es (ps ++ qs) ≡ entries_after (entries_after es ps) qs
entries_after-append es [] qs = refl
entries_after-append es (p ∷ ps) qs = entries_after-append (es ++ entries_of es p) ps qs

pub ordered_after : (ps : List Located) (p : Located) (qs : List Located) → Ordered (ps ++ p ∷ qs) → Each (NoneSees p.0) (p ∷ qs)
ordered_after [] p qs o = o.0
ordered_after (x ∷ ps) p qs o = ordered_after ps p qs o.1

-- What a name means at or under a part is what it means by the entries of the parts before that part.
pub reads_under : (text : List Declaration) (earlier later : List Located) (p : Located) → located_from 0 text ≡ earlier ++ p ∷ later → (at : Place) → Under p.0 at → (name : Name) →
    meaning (entries_in text) at name ≡ meaning (entries_after [] earlier) at name
reads_under text earlier later p e at under name =
    let ordered : Ordered (earlier ++ p ∷ later) = subst Ordered e (order_from 0 text).ordered in
    ap (λ ps. meaning (entries_after [] ps) at name) e
    ∙ ap (λ es. meaning es at name) (entries_after-append [] earlier (p ∷ later))
    ∙ meaning-entries_after (p ∷ later) (entries_after [] earlier) at name
    (each_map (NoneSees p.0) (Unseen at) (λ q h. h at under) (p ∷ later) (ordered_after earlier p later ordered))

pub reads_earlier : (text : List Declaration) (earlier later : List Located) (p : Located) (name : Name) → located_from 0 text ≡ earlier ++ p ∷ later →
    meaning (entries_in text) p.0 name ≡ meaning (entries_after [] earlier) p.0 name
reads_earlier text earlier later p name e = reads_under text earlier later p e p.0 here name

-- The same of one entry in the block of a part.
pub earlier_entry-entries_after : (ps : List Located) (es : List Entry) (block : Place) (number : ℕ) (name : Name) → Each (Unseen (number ∷ block)) ps →
    earlier_entry (entries_after es ps) block number name ≡ earlier_entry es block number name
earlier_entry-entries_after [] es block number name hs = refl
earlier_entry-entries_after (p ∷ ps) es block number name hs =
    earlier_entry-entries_after ps (es ++ entries_of es p) block number name hs.1
    ∙ earlier_entry-append es (entries_of es p) block number name
    (each_map (UnseenEntry (number ∷ block)) (λ e. is_before number block (e.number ∷ e.block) ≡ false)
    (λ e h. or_left (is_before number block (e.number ∷ e.block)) (sees block (e.number ∷ e.block)) h)
    (entries_of es p) (entries_unseen es p (number ∷ block) hs.0))

pub takes_earlier : (text : List Declaration) (earlier later : List Located) (number : ℕ) (block : Place) (part : Part) (name : Name) → located_from 0 text ≡ earlier ++ (number ∷ block, part) ∷ later →
    earlier_entry (entries_in text) block number name ≡ earlier_entry (entries_after [] earlier) block number name
takes_earlier text earlier later number block part name e =
    let ordered : Ordered (earlier ++ (number ∷ block, part) ∷ later) = subst Ordered e (order_from 0 text).ordered in
    ap (λ ps. earlier_entry (entries_after [] ps) block number name) e
    ∙ ap (λ es. earlier_entry es block number name) (entries_after-append [] earlier ((number ∷ block, part) ∷ later))
    ∙ earlier_entry-entries_after ((number ∷ block, part) ∷ later) (entries_after [] earlier) block number name
    (each_map (NoneSees (number ∷ block)) (Unseen (number ∷ block)) (λ q h. h (number ∷ block) here) ((number ∷ block, part) ∷ later)
    (ordered_after earlier (number ∷ block, part) later ordered))
