-- What the class of an array is decoded as.
use Rattle.std.proofs.Common.{◌≡◌, ℕ, ◌+◌, [], ap, sym, ◌∙◌}
use Rattle.std.specs.Int.{next_multiple_of}
use Rattle.ctf_class.specs.declared.class.Class.{Class}
use Rattle.ctf_class.specs.declared.class.Kind as kind
use Rattle.ctf_class.specs.declared.route.Length.{Length}
use Rattle.ctf_decode.specs.Input.{Input, Env}
use Rattle.ctf_decode.specs.Routes.{length_of}
use Rattle.ctf_decode.specs.Walk.{and_then, begin, open_at, repeat, as_list, walk}
use Rattle.ctf_decode.specs.Views.{form, shape}
use Rattle.ctf_decode.proofs.Views.{form-is, shape-Array}
use Rattle.ctf_decode.proofs.Aligns.{align-is}

pub walk-array : (c : Input) (env : Env) (p s : ℕ) (class element : Class) (many : Length) → class.kind ≡ kind.Array many element
    → begin c s (open_at c (next_multiple_of p element.align) (and_then (repeat (walk (form element) c env) (length_of many c.earlier env) [] (next_multiple_of p element.align) (s + 1)) as_list)) ≡ walk (form class) c env p s
walk-array c env p s class element many is =
    let at = λ (a : ℕ). begin c s (open_at c (next_multiple_of p a) (and_then (repeat (walk (form element) c env) (length_of many c.earlier env) [] (next_multiple_of p a) (s + 1)) as_list)) in
    let whole = form-is class ∙ ap (λ k. shape k class.align) is ∙ shape-Array many element class.align in
    sym (ap (λ f. walk f c env p s) whole ∙ ap at (align-is element))
