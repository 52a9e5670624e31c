-- The numbers of the thirty IRIs, under their local names; CMP is ContainerMembershipProperty and position_1 is _1.
-- Assumes nothing.
use Rattle.std.specs.Prelude.{ℕ}

abbrev pub #type : ℕ
#type = 0

abbrev pub #Property : ℕ
#Property = 1

abbrev pub #List : ℕ
#List = 2

abbrev pub #Statement : ℕ
#Statement = 3

abbrev pub #subject : ℕ
#subject = 4

abbrev pub #predicate : ℕ
#predicate = 5

abbrev pub #object : ℕ
#object = 6

abbrev pub #first : ℕ
#first = 7

abbrev pub #rest : ℕ
#rest = 8

abbrev pub #value : ℕ
#value = 9

abbrev pub #nil : ℕ
#nil = 10

abbrev pub #Seq : ℕ
#Seq = 11

abbrev pub #Bag : ℕ
#Bag = 12

abbrev pub #Alt : ℕ
#Alt = 13

abbrev pub #position_1 : ℕ
#position_1 = 14

abbrev pub #Resource : ℕ
#Resource = 15

abbrev pub #Class : ℕ
#Class = 16

abbrev pub #Literal : ℕ
#Literal = 17

abbrev pub #Datatype : ℕ
#Datatype = 18

abbrev pub #Container : ℕ
#Container = 19

abbrev pub #CMP : ℕ
#CMP = 20

abbrev pub #domain : ℕ
#domain = 21

abbrev pub #range : ℕ
#range = 22

abbrev pub #subClassOf : ℕ
#subClassOf = 23

abbrev pub #subPropertyOf : ℕ
#subPropertyOf = 24

abbrev pub #member : ℕ
#member = 25

abbrev pub #seeAlso : ℕ
#seeAlso = 26

abbrev pub #isDefinedBy : ℕ
#isDefinedBy = 27

abbrev pub #comment : ℕ
#comment = 28

abbrev pub #label : ℕ
#label = 29
