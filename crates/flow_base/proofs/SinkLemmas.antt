-- What follows of several writes to a sink, one after the other.
use Rattle.std.proofs.Common.{ℕ, List, [], ◌++◌, length, arith}
use Rattle.std.proofs.Math.Seq.{take-length}
use Rattle.std.proofs.KnownBytes.{Appends-nil, Appends-trans}
use Rattle.flow_base.specs.Sink.{SinkView, Adds, AddsFront}

-- a sink that stays as it is appended nothing
pub Adds-none : (old : SinkView) → Adds old old []
Adds-none old = record { held = Appends-nil old.held; later = omega arith }

-- bytes that are appended one after the other are appended
pub Adds-more : (old mid new : SinkView) (bytes more : List ℕ) → Adds old mid bytes → Adds mid new more → Adds old new (bytes ++ more)
Adds-more old mid new bytes more first second = record {
  held = Appends-trans old.held mid.held new.held bytes more first.held second.held;
  later = omega (arith, first.later, second.later);
}

-- all of the bytes are a front of them
pub AddsFront-all : (old new : SinkView) (bytes : List ℕ) → Adds old new bytes → AddsFront old new bytes
AddsFront-all old new bytes added = (length bytes, omega arith, rw (take-length bytes) added)

-- none of the bytes is a front of them
pub AddsFront-none : (old new : SinkView) (bytes : List ℕ) → Adds old new [] → AddsFront old new bytes
AddsFront-none old new bytes added = (0, omega arith, added)
