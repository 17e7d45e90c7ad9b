-- The whole table holds, since each part does. Assumes nothing.
use mathlib.Core.List.{List, [], ◌∷◌, ◌++◌}
use Rattle.cases.specs.Row.{Row, AllHold}
use Rattle.cases.specs.Document01.{cases_of01}
use Rattle.cases.specs.Request1.{cases_of_request1}
use Rattle.cases.specs.Request2.{cases_of_request2}
use Rattle.cases.specs.Request3.{cases_of_request3}
use Rattle.cases.specs.Request4.{cases_of_request4}
use Rattle.cases.specs.Request5.{cases_of_request5}
use Rattle.cases.specs.Request7.{cases_of_request7}
use Rattle.cases.specs.Request8.{cases_of_request8}
use Rattle.cases.specs.Request9.{cases_of_request9}
use Rattle.cases.specs.Cases.{CasesHold}
use Rattle.cases.proofs.Document01.{cases_of01_hold}
use Rattle.cases.proofs.Request1.{cases_of_request1_hold}
use Rattle.cases.proofs.Request2.{cases_of_request2_hold}
use Rattle.cases.proofs.Request3.{cases_of_request3_hold}
use Rattle.cases.proofs.Request4.{cases_of_request4_hold}
use Rattle.cases.proofs.Request5.{cases_of_request5_hold}
use Rattle.cases.proofs.Request7.{cases_of_request7_hold}
use Rattle.cases.proofs.Request8.{cases_of_request8_hold}
use Rattle.cases.proofs.Request9.{cases_of_request9_hold}

and_then : (rs more : List Row) → AllHold rs → AllHold more → AllHold (rs ++ more)
and_then [] more h k = k
and_then (r ∷ rs) more (h, hs) k = (h, and_then rs more hs k)

pub cases_hold : CasesHold
cases_hold =
    and_then cases_of01 (cases_of_request1 ++ cases_of_request2 ++ cases_of_request3 ++ cases_of_request4 ++ cases_of_request5 ++ cases_of_request7 ++ cases_of_request8 ++ cases_of_request9) cases_of01_hold
    (and_then cases_of_request1 (cases_of_request2 ++ cases_of_request3 ++ cases_of_request4 ++ cases_of_request5 ++ cases_of_request7 ++ cases_of_request8 ++ cases_of_request9) cases_of_request1_hold
    (and_then cases_of_request2 (cases_of_request3 ++ cases_of_request4 ++ cases_of_request5 ++ cases_of_request7 ++ cases_of_request8 ++ cases_of_request9) cases_of_request2_hold
    (and_then cases_of_request3 (cases_of_request4 ++ cases_of_request5 ++ cases_of_request7 ++ cases_of_request8 ++ cases_of_request9) cases_of_request3_hold
    (and_then cases_of_request4 (cases_of_request5 ++ cases_of_request7 ++ cases_of_request8 ++ cases_of_request9) cases_of_request4_hold
    (and_then cases_of_request5 (cases_of_request7 ++ cases_of_request8 ++ cases_of_request9) cases_of_request5_hold
    (and_then cases_of_request7 (cases_of_request8 ++ cases_of_request9) cases_of_request7_hold
    (and_then cases_of_request8 cases_of_request9 cases_of_request8_hold cases_of_request9_hold)))))))
