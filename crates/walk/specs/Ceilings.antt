-- The ceilings of document 01. `Ceilings::stated` of src/ proves that these are the constants which the code cites.
use Rattle.walk.specs.declared.Ceilings.{Ceilings}

-- 01: "V 1 to 1,024; K 1 to 32; E 0 to 4,096; Q 1 to 32; moves 0 to 256"; "65,535 marks an unreached pair in the area"
abbrev pub ceilings : Ceilings
ceilings = record { marks = 1024; kinds = 32; ties = 4096; states = 32; moves = 256; words = 32768; unreached = 65535 }
