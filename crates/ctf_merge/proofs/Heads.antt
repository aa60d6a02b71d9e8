-- The item that comes next is shown.
use Rattle.std.proofs.Common.{◌≡◌, ℕ, Option, Some, None, IfSome, slice_get, sym, ap, ◌∙◌, subst}
use Rattle.ctf_stream.specs.Reader as reader
use Rattle.ctf_stream.specs.Reader.{Reader, item_ahead}
use Rattle.ctf_stream.specs.Shown.{Tells, IsAsked}
use Rattle.ctf_stream.specs.declared.item.CurrentItem.{CurrentItem}
use Rattle.ctf_merge.specs.Heads.{ShowsHead}
use Rattle.ctf_merge.specs.Merges.{Merge, IsNext}

some_same : (a b : Reader) (o : Option Reader) → o ≡ Some a → o ≡ Some b → a ≡ b
some_same a b o e f = let both : Some a ≡ Some b = sym e ∙ f in cc

pub head_shown : (m : Merge) (n : ℕ) (r : Reader) (t : Option CurrentItem) → IsNext m n → slice_get m.readers n ≡ Some r
    → Tells r.trace r.name r.ahead t → IfSome t (IsAsked r.writes) → ShowsHead m t
head_shown m n r (Some x) it at tells asked =
    let same = some_same r it.front (slice_get m.readers n) at it.at in
    record {
      number = n;
      it = it;
      same = subst (λ (h : reader.Peeked). Tells it.front.trace it.front.name h (Some x)) it.ahead
          (subst (λ (s : Reader). Tells s.trace s.name s.ahead (Some x)) same tells);
      asked = subst (λ (s : Reader). IsAsked s.writes x) same asked;
    }
head_shown m n r None it at tells asked =
    let same = some_same r it.front (slice_get m.readers n) at it.at in
    let front : r.ahead ≡ reader.item it.next = ap (λ (s : Reader). s.ahead) same ∙ it.ahead in
    absurd (let no : Some it.next ≡ None = ap item_ahead (sym front) ∙ tells in cc)
