-- The rooms of a store stay.
use Rattle.std.proofs.Common.{◌∙◌, refl}
use Rattle.route_book.specs.Book.{Book, KeepsRooms}

pub KeepsRooms-same : (b : Book) → KeepsRooms b b
KeepsRooms-same b = record { places = refl; stops = refl; marks = refl }

pub KeepsRooms-trans : (a b c : Book) → KeepsRooms a b → KeepsRooms b c → KeepsRooms a c
KeepsRooms-trans a b c first second = record {
  places = second.places ∙ first.places;
  stops = second.stops ∙ first.stops;
  marks = second.marks ∙ first.marks;
}
