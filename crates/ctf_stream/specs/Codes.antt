-- A code of values, by which a proof tells them apart: each is that of a value of the code.
use Rattle.std.proofs.Common.{rules, ◌≡◌, ◌∙◌, List, [], ◌∷◌, map, refl, ap}
use Rattle.std.specs.Coded.{Coded, code_by}
use Rattle.ctf_decode.specs.Values.{Val, Vals, unsigned, signed, label, text, group, list, choice, no_vals, more_vals, vals_of}
use Rattle.ctf_decode.specs.Views.{val}
use Rattle.ctf_decode.specs.declared.value.Value as value
use Rattle.ctf_decode.specs.declared.value.Value.{Value}
use Rattle.ctf_decode.specs.contracts.value.Value.{the_row}
use Rattle.ctf_decode.proofs.Views.{val-Group, val-List, val-Choice}

abbrev mutual
  pub value_of : Val → Value
  value_of (unsigned n) = value.Unsigned n
  value_of (signed z) = value.Signed z
  value_of (label z) = value.Label z
  value_of (text bytes) = value.Text bytes
  value_of (group vs) = value.Group (list_of vs)
  value_of (list vs) = value.List (list_of vs)
  value_of (choice i v) = value.Choice i (value_of v)

  pub list_of : Vals → List Value
  list_of no_vals = []
  list_of (more_vals v vs) = value_of v ∷ list_of vs

mutual
  pub back : (v : Val) → val (value_of v) ≡ v
  back (unsigned n) = search (rules, value.the_lemmas)
  back (signed z) = search (rules, value.the_lemmas)
  back (label z) = search (rules, value.the_lemmas)
  back (text bytes) = search (rules, value.the_lemmas)
  back (group vs) = val-Group (list_of vs) ∙ ap group (backs vs)
  back (list vs) = val-List (list_of vs) ∙ ap list (backs vs)
  back (choice i v) = val-Choice i (value_of v) ∙ ap (choice i) (back v)

  pub backs : (vs : Vals) → vals_of (map val (list_of vs)) ≡ vs
  backs no_vals = refl
  backs (more_vals v vs) = λ i. more_vals (back v i) (backs vs i)

abbrev pub coded_val : Coded Val
coded_val = code_by Value the_row.coded value_of val back
