use Rattle.std.proofs.Common.{◌≡◌, ◌+◌, ◌++◌, take, drop, vec_items, vec_len, vec_capacity}
use Rattle.session.specs.Closing.{closes_by, closing_count, closed_lines, closings}
use Rattle.session.proofs.state.Closing.close_lines.Given as goal

-- the lines before the index are closed, the rest is to close
abbrev pub invariant-loop-line : goal.invariant-loop-line
invariant-loop-line l = record {
  front : take l.line-index l.line-items ++ closed_lines (closes_by l.self) l.self.time (drop l.line-index l.initial.line-items)
      ≡ closed_lines (closes_by l.self) l.self.time l.initial.line-items;
  back : drop l.line-index l.line-items ≡ drop l.line-index l.initial.line-items;
  out : vec_items l.waiting ++ closings (closes_by l.self) l.self.cause l.self.period l.self.time l.number (drop l.line-index l.initial.line-items)
      ≡ vec_items l.initial.waiting ++ closings (closes_by l.self) l.self.cause l.self.period l.self.time l.done l.initial.line-items;
  numbers : l.number + closing_count (closes_by l.self) (drop l.line-index l.initial.line-items) ≡ l.done + closing_count (closes_by l.self) l.initial.line-items;
  longer : vec_len l.waiting + l.done ≡ vec_len l.initial.waiting + l.number;
  reserved : vec_capacity l.waiting ≡ vec_capacity l.initial.waiting;
}
