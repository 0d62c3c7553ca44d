-- A closure may be given to another thread where each of its captures may.
use mathlib.Core.List.{List, [], ◌∷◌}
use mir.Syntax.{Sym}
use denote.RattleType.{RattleType}
use denote.Struct.Field.{row_field}
use denote.Struct.Tuple.{TupleAt, parts, type_at}
use denote.Param.Send.{AllSend, IsSend}
use denote.Param.SendFields.{FieldsHave, as_row_send, declared_send}

parts_send : (Ts : List RattleType) → AllSend Ts → FieldsHave IsSend (parts Ts)
parts_send [] s = tt
parts_send (T ∷ Ts) s = (as_row_send (row_field T) s.0, parts_send Ts s.1)

-- each of the captures may be given to another thread
pub record AreSent (Ts : List RattleType) : Type 1 where
  pub each : AllSend Ts

pub no_more : AreSent []
no_more = record { each = tt }

pub capture : (T : RattleType) (Ts : List RattleType) → IsSend T → AreSent Ts → AreSent (T ∷ Ts)
capture T Ts one rest = record { each = (one, rest.each) }

pub closure_send : (name : Sym) (Ts : List RattleType) → AreSent Ts → IsSend (TupleAt name Ts)
closure_send name Ts s = declared_send (type_at name Ts) (parts_send Ts s.each)
