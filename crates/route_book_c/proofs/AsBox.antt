-- A raw box of the store owns what a box at the same types owns.
use mir.Syntax.{impl, tnil, dnil}
use mathlib.Core.List.{[]}
use denote.Signature.{Slot, plain}
use denote.RattleType.{RattleType}
use Rattle.std_alloc.proofs.BoxSteps.Form.{Bx}
use Rattle.std_heap.specs.contracts.Global as Heap
use Rattle.std_heap.specs.contracts.GlobalAllocator.TheImpl.{ghosts, dict}
use Rattle.std_heap.proofs.Global.TheLaws as heap
use Rattle.route_book_c.specs.contracts.store.Store as Store
use Rattle.route_book_c.proofs.store.Store.TheLaws as store
use Rattle.raw_box.specs.contracts.RawBox as Raw
use Rattle.route_book_c.specs.contracts.holder.Holder as Holder

abbrev pub E : Bx
E = record {
  row = Store.the_row;
  laws = store.the_row_laws;
  al = record {
    row = Heap.the_row;
    laws
        = heap.the_row_laws;
    g = ghosts;
    d = dict;
    drops = impl [] tnil dnil;
  };
}

abbrev pub RawRow : RattleType
RawRow = Raw.the_row Store.the_row Heap.the_row ghosts

abbrev pub FromRaw : Slot 0
FromRaw = plain (λ _. RawRow)

abbrev pub FromHolder : Slot 0
FromHolder = plain (λ _. Holder.the_row)

abbrev pub FromHeap : Slot 0
FromHeap = plain (λ _. Heap.the_row)
