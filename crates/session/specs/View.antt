-- A ledger as the state that the steps speak of.
use Rattle.std.specs.Prelude.{vec_items}
use Rattle.session.specs.declared.ledger.Ledger.{Ledger}
use Rattle.session.specs.State.{State}

abbrev pub view : Ledger → State
view g = record {
  id = g.id;
  settings = g.settings;
  marks = g.marks;
  last = g.last;
  closed = g.closed;
  owed = g.owed;
  lines = vec_items g.lines;
  waiting = vec_items g.waiting;
}
