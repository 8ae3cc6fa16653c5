-- What each refusal tells: its number and its place. Every contract that refuses is pinned through this definition.
use Rattle.std.specs.Prelude.{◌≡◌, ℕ, List, codes, cond, Some, None, Ok, Err, Option, Result, ◌==◌}
use Rattle.refusal.specs.declared.Buffer.{Buffer}
use Rattle.refusal.specs.declared.Buffer.TheVariants.{Form, Store, Sheet, Work, Outputs, Key, OtherSheet}
use Rattle.refusal.specs.declared.Refusal.{Refusal}
use Rattle.refusal.specs.declared.Refusal.TheVariants.{SizesCutShort, WireCount, InputCount, Length, Kind, Pair, TruthTable, OutputCount, GateCount, WrongLength, NoSuchSide, NoSuchInput, NoBit, ControlBits, SheetInputs, SheetMark, NeitherMark, ScriptLine, ScriptLength, TapeShort, OtherSide, AlreadyReleased, AlreadyWaiting, NoEntry, EqualMarks, LabelMissing, ScriptOrder}

-- The place of a buffer in a refusal for its length.
abbrev pub place_of : Buffer → ℕ
place_of Form = 1
place_of Store = 2
place_of Sheet = 3
place_of Work = 4
place_of Outputs = 5
place_of Key = 6
place_of OtherSheet = 7

-- Number and place of each cause: 1 to 18 come from the input, 31 to 38 from the state.
abbrev pub told : Refusal → ℕ × ℕ
told SizesCutShort = (1, 0)
told WireCount = (2, 0)
told InputCount = (3, 0)
told Length = (4, 0)
told (Kind w) = (5, w)
told (Pair w) = (6, w)
told (TruthTable w) = (7, w)
told OutputCount = (8, 0)
told GateCount = (9, 0)
told (WrongLength b) = (10, place_of b)
told NoSuchSide = (11, 0)
told (NoSuchInput given) = (12, given)
told (NoBit w) = (13, w)
told (ControlBits w) = (14, w)
told SheetInputs = (15, 0)
told (SheetMark w) = (15, w)
told (NeitherMark w) = (16, w)
told (ScriptLine line) = (17, line)
told ScriptLength = (18, 0)
told TapeShort = (31, 0)
told (OtherSide w) = (32, w)
told (AlreadyReleased w) = (33, w)
told (AlreadyWaiting w) = (34, w)
told (NoEntry w) = (35, w)
told (EqualMarks w) = (36, w)
told (LabelMissing w) = (37, w)
told ScriptOrder = (38, 0)

-- A call that looks for faults answers well exactly where there is none, and else refuses with the first: its number and place.
abbrev pub Finds : {T : Type 0} → Result T Refusal → Option (ℕ × ℕ) → Type 0
Finds (Ok done) fault = fault ≡ None
Finds (Err e) fault = fault ≡ Some (told e)

-- A buffer or key of another length than the one wanted.
abbrev pub length_fault : ℕ → Buffer → ℕ → Option (ℕ × ℕ)
length_fault wanted buffer len = cond (len == wanted) None (Some (10, place_of buffer))

-- The words of each cause.
abbrev pub words_of : Refusal → List ℕ
words_of SizesCutShort = codes "fewer bytes than the sizes take"
words_of WireCount = codes "the number of wires is not 1 to 1536"
words_of InputCount = codes "the number of inputs is not 1 to 512, or exceeds the wires"
words_of Length = codes "the length does not follow from the number of wires"
words_of (Kind w) = codes "a kind with bits that its wire cannot have"
words_of (Pair w) = codes "a pair on an input, or one that does not lie below its gate"
words_of (TruthTable w) = codes "a truth table that the gate's class does not allow"
words_of OutputCount = codes "the number of outputs is not 1 to 256"
words_of GateCount = codes "the number of garbled gates is not the one stated"
words_of (WrongLength b) = codes "a buffer or a key of another length than the one wanted"
words_of NoSuchSide = codes "no such side"
words_of (NoSuchInput w) = codes "no such input wire"
words_of (NoBit w) = codes "a bit that is neither 0 nor 1"
words_of (ControlBits w) = codes "control bits that must be zero"
words_of SheetInputs = codes "a sheet for another number of inputs"
words_of (SheetMark w) = codes "a mark that its wire cannot have on this sheet"
words_of (NeitherMark w) = codes "an output label that meets neither of its marks"
words_of (ScriptLine w) = codes "a line of no known shape"
words_of ScriptLength = codes "a script of too many bytes"
words_of TapeShort = codes "less tape is left than the opening needs"
words_of (OtherSide w) = codes "a wire of another side"
words_of (AlreadyReleased w) = codes "a wire whose label is released"
words_of (AlreadyWaiting w) = codes "a wire that has an entry waiting"
words_of (NoEntry w) = codes "a wire with no entry"
words_of (EqualMarks w) = codes "an output whose two marks are equal"
words_of (LabelMissing w) = codes "an input wire whose label has not come"
words_of ScriptOrder = codes "a command before what it needs, or once too often"
