-- All cases, document 01's starred ones and those of document 02's requests: one table, and one statement that covers its rows.
use Rattle.std.specs.Prelude.{List, ◌++◌}
use Rattle.cases.specs.Row.{Row, AllHold}
use Rattle.cases.specs.Document01.{cases_of01}
use Rattle.cases.specs.Request1.{cases_of_request1}
use Rattle.cases.specs.Request2.{cases_of_request2}
use Rattle.cases.specs.Request3.{cases_of_request3}
use Rattle.cases.specs.Request4.{cases_of_request4}
use Rattle.cases.specs.Request5.{cases_of_request5}
use Rattle.cases.specs.Request7.{cases_of_request7}
use Rattle.cases.specs.Request8.{cases_of_request8}
use Rattle.cases.specs.Request9.{cases_of_request9}

abbrev pub table : List Row
table = cases_of01 ++ cases_of_request1 ++ cases_of_request2 ++ cases_of_request3 ++ cases_of_request4 ++ cases_of_request5 ++ cases_of_request7
    ++ cases_of_request8 ++ cases_of_request9

abbrev pub CasesHold : Type 0
CasesHold = AllHold table
