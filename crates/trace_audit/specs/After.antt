-- what is known behind one more good line

use Rattle.std.specs.Prelude.{ℕ, ◌+◌, true, List, [], ◌∷◌, ◌++◌, drop, slice_get, Option, None, Some, Result, Ok, if◌then◌else◌}
use Rattle.std.specs.Option.{option_map, option_or}
use Rattle.link_model.specs.Ledger.{same_mark}
use Rattle.trace_model.specs.declared.cell.TraceCell.{TraceCell}
use Rattle.trace_model.specs.declared.end.TraceEnd.{TraceEnd}
use Rattle.trace_model.specs.declared.line.TraceLine.{TraceLine}
use Rattle.trace_model.specs.declared.line.TraceLine.TheVariants.{Link, Take, Lost, Frame, Put, Bind, End}
use Rattle.trace_model.specs.declared.refusal.TraceRefusal.{TraceRefusal}
use Rattle.trace_model.specs.Ends.{same_end, same_label}
use Rattle.trace_model.specs.Lines.{line_says}
use Rattle.trace_model.specs.Known.{Known}

-- a queue without its first cell
abbrev pub served : Known → TraceEnd → TraceEnd → List TraceCell
served known end at = if same_end end at then drop 1 (known.queue at) else known.queue at

abbrev pub after_said : Known → TraceLine → Known
after_said known (Link first second) = record known {
  peer = λ at. if same_end second at then Some first else if same_end first at then Some second else known.peer at;
  taken = None;
  links = known.links + 1;
}
after_said known (Take end) = record known {
  queue = served known end;
  taken = option_map (λ cell. record { end = end; cell = cell }) (slice_get (known.queue end) 0);
  begun = true;
}
after_said known (Lost end) = record known {
  queue = served known end;
  taken = None;
  begun = true;
}
after_said known (Frame mark payload) = record known {
  payload = λ of. if same_mark mark of then Some payload else known.payload of;
  taken = None;
  begun = true;
}
after_said known (Put place mark) = record known {
  queue = λ at. if same_end place.end at then known.queue at ++ record { channel = place.channel; mark = mark } ∷ [] else known.queue at;
  first = λ of. option_or (known.first of) (if same_mark mark of then Some place else None);
  taken = None;
  begun = true;
  puts = known.puts + 1;
}
after_said known (Bind label flow) = record known {
  flow = λ at. if same_label label at then Some flow else known.flow at;
  taken = None;
  begun = true;
  binds = known.binds + 1;
}
after_said known End = record known {
  taken = None;
  begun = true;
  ended = true;
}

abbrev pub after_answer : Known → Result (Option TraceLine) TraceRefusal → Known
after_answer known (Ok (Some line)) = after_said known line
after_answer known answer = known

abbrev pub after_line : (octets : ℕ) → Known → (line : List ℕ) → Known
after_line octets known line = after_answer known (line_says octets line)
