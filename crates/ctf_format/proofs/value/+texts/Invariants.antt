use Rattle.std.proofs.Common.{◌≡◌, ◌++◌, ◌≤◌, map, take, drop, vec_len}
use Rattle.ctf_decode.specs.Values.{vals_of}
use Rattle.ctf_decode.specs.Views.{val}
use Rattle.ctf_format.specs.Rows.{row}
use Rattle.ctf_format.specs.Texts.{value_text, member_part, member_texts, element_texts}
use Rattle.ctf_format.proofs.value.+texts.Given as goal

abbrev pub invariant-put_elements-loop-i : goal.invariant-put_elements-loop-i
invariant-put_elements-loop-i l = record {
  held : l.end ≤ vec_len l.buffer;
  text : take l.end l.buffer.items ++ row l.mark (element_texts (value_text l.element) l.i (vals_of (map val (drop l.i l.values)))) ≡ take l.fn.at l.fn.buffer.items ++ row 91 (element_texts (value_text l.element) 0 (vals_of (map val l.values)));
}

abbrev pub invariant-put_members-loop-i : goal.invariant-put_members-loop-i
invariant-put_members-loop-i l = record {
  held : l.end ≤ vec_len l.buffer;
  text : take l.end l.buffer.items ++ row l.lead (member_texts (map member_part (drop l.i l.members)) (vals_of (map val (drop l.i l.values)))) ≡ take l.fn.at l.fn.buffer.items ++ row 123 (member_texts (map member_part l.members) (vals_of (map val l.values)));
}
